-- What the seat of a connection answers, by all that its calls promise, and what is written of it so.
use Rattle.std.specs.Prelude.{◌≡◌, ◌⊎◌, ◌<◌, ℕ, Bool, List, [], ◌++◌, Option, IfSome, true, false, cond, nat_lt}
use Rattle.stamps.specs.declared.record.Item.{Item}
use Rattle.plain_store.specs.Words.{Key, Tag}
use Rattle.plain_store.specs.declared.refusal.Refusal.TheVariants.{NoTenant, Busy}
use Rattle.plain_store.specs.declared.step.Act.{Act}
use Rattle.plain_store.specs.declared.step.Act.TheVariants.{Put as PutAct, Get as GetAct, Find as FindAct}
use Rattle.plain_store.specs.declared.answer.Answer.{Answer}
use Rattle.plain_store.specs.declared.answer.Answer.TheVariants.{Refused, Keeps}
use Rattle.hub.specs.Atomic.{IsReadAtomic}
use Rattle.hub.specs.Clocks.{PutsByClock}
use Rattle.hub.specs.Fresh.{AreCommittedIn, IsFreshByEntry}
use Rattle.hub.specs.Operations.{IsOperation, ReportsList, ReportsRead, ReportsWrite}
use Rattle.hub.specs.Replies.{AreServed, IfDone, IfListed, IfRead, IsDrawn}
use Rattle.hub.specs.Seats.{SeatView, sight}
use Rattle.line_protocol.specs.AnswerSpelling.{answer_line}
use Rattle.line_protocol.specs.declared.request.Request.{Request}
use Rattle.line_protocol.specs.declared.request.Request.TheVariants.{Hello, Put, Get, Find, Keep, Info, Bye}
use Rattle.server_sessions.specs.Said.{Aside, aside_line, asides_text, ready_line}

-- The seat ran an operation of this act, and the answer reports what it entered meanwhile: each reply has its place in the
-- history that the seat has seen.
pub record IsServedWith (act : Act) (Reports : SeatView → Answer → SeatView → Type 0) (old : SeatView) (answer : Answer)
    (new : SeatView) : Type 0 where
  pub operated : IsOperation act old answer new
  pub reports : Reports old answer new

-- a write that is done has committed each of its keys, in the history
abbrev pub HasCommitted : List Item → Answer → SeatView → Type 0
HasCommitted items answer new = IfDone answer (AreCommittedIn new.seen new.name.tenant items)

-- that a write is done, under the next stamp, answers replies that this operation entered
abbrev pub ReportsPut : List Item → SeatView → Answer → SeatView → Type 0
ReportsPut items old answer new =
    IfDone answer (IsDrawn old.name.client old.counter new.counter) × ReportsWrite items old answer new × HasCommitted items answer new

-- what a read reports was in replies that this operation entered. It is read atomic, by the puts of the history, and fresh, by all
-- that stands there before the read's entry
abbrev pub ReportsGet : List Key → SeatView → Answer → SeatView → Type 0
ReportsGet keys old answer new =
    ReportsRead keys old answer new × IfRead answer (λ told. ∥ IsReadAtomic new.seen new.name.tenant told ∥₁)
    × IfRead answer (λ told. IsFreshByEntry old.seen new.seen new.name told)

-- and so is what a search reports
abbrev pub ReportsFind : Tag → SeatView → Answer → SeatView → Type 0
ReportsFind tag old answer new =
    ReportsList tag old answer new × IfListed answer (λ told. ∥ IsReadAtomic new.seen new.name.tenant told ∥₁)
    × IfListed answer (λ told. IsFreshByEntry old.seen new.seen new.name told)

-- A put is served. Where puts are to be newest its stamp is the clock's.
abbrev pub IsPut : Bool → List Item → SeatView → Answer → SeatView → Type 0
IsPut false items old answer new = IsServedWith (PutAct old.name.client items) (ReportsPut items) old answer new
IsPut true items old answer new = PutsByClock items old answer new

-- What a seat of a store of so many tenants answers to a request: `hello` is refused 12; a put, a get and a find are
-- served; `keep` is answered by its number, and refused 10 where the seat's tenant is not there. It does not answer `info` and `bye`.
abbrev pub IsAnswered : Bool → ℕ → Request → SeatView → Answer → SeatView → Type 0
IsAnswered newest tenants (Hello name client base) old answer new = (answer ≡ Refused Busy) × (new ≡ old)
IsAnswered newest tenants (Put items) old answer new = IsPut newest items old answer new
IsAnswered newest tenants (Get keys) old answer new =
    IsServedWith (GetAct old.name.client keys) (ReportsGet keys) old answer new
IsAnswered newest tenants (Find tag) old answer new =
    IsServedWith (FindAct old.name.client tag) (ReportsFind tag) old answer new
IsAnswered newest tenants (Keep keep) old answer new =
    (answer ≡ cond (nat_lt old.name.tenant tenants) (Keeps keep) (Refused NoTenant)) × (new ≡ old)
IsAnswered newest tenants Info old answer new = ⊥
IsAnswered newest tenants Bye old answer new = ⊥

-- the entries so far are returned where journals are cut, and stay where none is
abbrev pub IsDrained : ℕ → SeatView → SeatView → Type 0
IsDrained epoch old new = (epoch ≡ 0 → new ≡ old) × (0 < epoch → new ≡ record old { entries = [] })

-- what a seat answers to a request, with its entries returned then where journals are cut
abbrev pub IsAnsweredAndDrained : Bool → ℕ → ℕ → Request → SeatView → Answer → SeatView → Type 0
IsAnsweredAndDrained newest epoch tenants request old answer new =
    (between : SeatView) × IsAnswered newest tenants request old answer between × (between.name ≡ old.name)
    × IsDrained epoch between new

-- the line that is written where a seat is: what the seat answers to a request; or what no seat answers, and it stays as it was
abbrev pub IsToldNext : Bool → ℕ → SeatView → List ℕ → SeatView → Type 0
IsToldNext newest epoch old line new =
    ((tenants : ℕ) × (request : Request) × (answer : Answer)
    × IsAnsweredAndDrained newest epoch tenants request old answer new × (line ≡ answer_line answer))
    ⊎ ((aside : Aside) × (line ≡ aside_line aside) × (new ≡ old))

-- The text is what was written of a seat since it was opened so, line by line, and it has come to this view. Its entries may
-- have been returned since.
pub data ToldSince (newest : Bool) (epoch : ℕ) (opened : SeatView) : SeatView → List ℕ → Type 0 where
  Nothing : ToldSince newest epoch opened opened []
  OneMore : (old : SeatView) (line : List ℕ) (new : SeatView) (text : List ℕ) → ToldSince newest epoch opened old text
      → IsToldNext newest epoch old line new → ToldSince newest epoch opened new (text ++ line)
  Returned : (old : SeatView) (new : SeatView) (text : List ℕ) → ToldSince newest epoch opened old text
      → IsDrained epoch old new → ToldSince newest epoch opened new text

-- a seat that was just opened, whose entries are recorded, or returned where journals are cut
abbrev pub IsFresh : ℕ → SeatView → Type 0
IsFresh epoch seat =
    (seat.entries ≡ []) × (seat.sent ≡ 0) × (seat.stopped ≡ false) × ((seat.name.is_recorded ≡ true) ⊎ (0 < epoch))

-- each reply among the seat's entries was given to a call of it, at its place in the history that it has seen
abbrev pub AreGiven : SeatView → Type 0
AreGiven seat = AreServed (sight seat) 0 seat.sent [] seat.entries

-- What was written of a seat: what no seat answers, before it was opened, its counter, with its client's number where that was not
-- asked for, and then what it answered. Each reply that is left among its entries was given to a call of it, at its place in the
-- history that it has seen.
pub record IsToldBySeat (newest : Bool) (epoch : ℕ) (seat : SeatView) (text : List ℕ) : Type 0 where
  pub asides : List Aside
  pub opened : SeatView
  pub fresh : IsFresh epoch opened
  pub session : seat.name ≡ opened.name
  pub told : List ℕ
  pub since : ToldSince newest epoch opened seat told
  pub told_client : Option ℕ
  pub own : IfSome told_client (λ client. client ≡ opened.name.client)
  pub spelled : text ≡ asides_text asides ++ (ready_line opened.name.counter told_client ++ told)
  pub given : AreGiven seat

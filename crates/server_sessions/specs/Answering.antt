-- What one line of a connection is answered.
use Rattle.std.specs.Prelude.{◌≡◌, ◌⊎◌, ◌<◌, ◌≤◌, ℕ, List, [], length, slice_get, Option, Some, None, Result, Ok, Err, true, false, IsTrue, IsSomeAnd, IfOk, IfErr, IsErrOf, ◌↔◌}
use Rattle.stamps.specs.declared.bounds.Limits.{Limits}
use Rattle.plain_store.specs.declared.refusal.Refusal.{Refusal}
use Rattle.plain_store.specs.declared.refusal.Refusal.TheVariants.{BadLine, NoTenant, NoSession, OutOfMemory}
use Rattle.plain_store.specs.declared.answer.Answer.{Answer}
use Rattle.plain_store.specs.declared.answer.Answer.TheVariants.{Refused}
use Rattle.hub.specs.Hubs.{ConfigView}
use Rattle.hub.specs.Registered.{is_unopened}
use Rattle.hub.specs.Seats.{SeatView}
use Rattle.line_protocol.specs.AnswerSpelling.{answer_line}
use Rattle.line_protocol.specs.Held.{EndsAs}
use Rattle.line_protocol.specs.ServeSpelling.{IsNoServeLine, IsServeLine, RefusesLine, bye_line}
use Rattle.line_protocol.specs.StepSpelling.{IsNobody, IsNumberOf}
use Rattle.line_protocol.specs.declared.request.Request.{Request}
use Rattle.line_protocol.specs.declared.request.Request.TheVariants.{Hello, Put, Get, Find, Keep, Info, Bye}
use Rattle.shard.specs.declared.seat_name.SeatName.{SeatName}
use Rattle.server_sessions.specs.Said.{Said, Answers, Informs, said_ready}
use Rattle.server_sessions.specs.declared.session_options.SessionOptions.{SessionOptions}
use Rattle.server_sessions.specs.declared.line_session.SessionEnd.{SessionEnd}
use Rattle.server_sessions.specs.declared.line_session.SessionEnd.TheVariants.{Silent, Bye as SaysBye, Unread}
use Rattle.server_sessions.specs.declared.line_session.SessionEnd.TheVariants.{Refused as IsRefused}
use Rattle.server_sessions.specs.SeatAnswers.{IsAnsweredAndDrained}

-- ---- while there is no seat

-- A seat is of the client that was asked for; or, where any was, of one of as many as the tenant may have, from 1 on.
abbrev pub IsOfClient : List Limits → Option ℕ → SeatName → Type 0
IsOfClient limits (Some client) name = name.client ≡ client
IsOfClient limits None name = (0 < name.client) × IsSomeAnd (slice_get limits name.tenant) (λ its. name.client ≤ its.clients)

-- A seat that was just opened: it is of the tenant that goes by this name, and of this client, or of any, from this base, and
-- nothing is entered.
pub record IsOpenedSeat (limits : List Limits) (names : List (List ℕ)) (name : List ℕ) (client : Option ℕ) (base : ℕ) (seat : SeatView)
    : Type 0 where
  pub of_tenant : IsNumberOf names name seat.name.tenant
  pub of_client : IsOfClient limits client seat.name
  pub from_base : seat.name.base ≡ base
  pub goes_on : seat.stopped ≡ false
  pub no_entries : seat.entries ≡ []

-- Why a hello is refused in a store of so many tenants: 10 where nobody goes by the name, or who does is not there; else
-- why no seat is opened: 12, 24, 26 or 30.
abbrev pub IsUngreeted : ℕ → List (List ℕ) → List ℕ → Refusal → Type 0
IsUngreeted tenants names name cause =
    (IsNobody names name × (cause ≡ NoTenant))
    ⊎ ((tenant : ℕ) × IsNumberOf names name tenant
    × (((tenants ≤ tenant) × (cause ≡ NoTenant)) ⊎ ((tenant < tenants) × (is_unopened cause ≡ true))))

-- the client that `ready` has: that of the seat where any was asked for
abbrev pub told_of : Option ℕ → SeatName → Option ℕ
told_of (Some client) name = None
told_of None name = Some name.client

-- What a hello is answered: `ready` and the counter of a seat that was opened for it; or a refusal, and there is no
-- seat.
abbrev pub IsGreeted : List Limits → List (List ℕ) → List ℕ → Option ℕ → ℕ → Said → Option SeatView → Type 0
IsGreeted limits names name client base said None =
    (cause : Refusal) × (said ≡ Answers (Refused cause)) × IsUngreeted (length limits) names name cause
IsGreeted limits names name client base said (Some seat) =
    (said ≡ said_ready seat.name.counter (told_of client seat.name))
    × IsOpenedSeat limits names name client base seat

-- What comes of opening a seat of this client, or of any, which is then told; or why none is opened: 10 exactly where there is no such
-- tenant, else 12, 24, 26 or 30. What it does is recorded, but where journals are cut.
pub record OpensSeat (epoch : ℕ) (limits : List Limits) (tenant : ℕ) (client : Option ℕ) (base : ℕ) (opened : Result SeatView Refusal)
    (told : Option ℕ) : Type 0 where
  pub fresh : IfOk opened (λ s. (s.stopped ≡ false) × (s.sent ≡ 0) × (s.entries ≡ []))
  pub records : IfOk opened (λ s. (s.name.is_recorded ≡ true) ⊎ (0 < epoch))
  pub of_tenant : IfOk opened (λ s. (s.name.tenant ≡ tenant) × (s.name.base ≡ base))
  pub of_client : IfOk opened (λ s. IsOfClient limits client s.name)
  pub told_is : IfOk opened (λ s. told ≡ told_of client s.name)
  pub no_tenant : IsErrOf opened NoTenant ↔ (length limits ≤ tenant)
  pub refusals : IfErr opened (λ refusal. (refusal ≡ NoTenant) ⊎ (is_unopened refusal ≡ true))

-- A connection takes what came of that: it has the seat and says so, or it says why not, and has what it had.
pub record Greets (opened : Result SeatView Refusal) (told : Option ℕ) (said : Said) (old new : Option SeatView) : Type 0 where
  pub ready : IfOk opened (λ s. (said ≡ said_ready s.name.counter told) × (new ≡ Some s))
  pub refused : IfErr opened (λ cause. (said ≡ Answers (Refused cause)) × (new ≡ old))

-- what a request is answered while there is no seat: each but a hello and an `info` is refused 11
abbrev pub IsAnsweredAlone : List Limits → List (List ℕ) → Request → Said → Option SeatView → Type 0
IsAnsweredAlone limits names (Hello name client base) said new = IsGreeted limits names name client base said new
IsAnsweredAlone limits names (Put items) said new = (said ≡ Answers (Refused NoSession)) × (new ≡ None)
IsAnsweredAlone limits names (Get keys) said new = (said ≡ Answers (Refused NoSession)) × (new ≡ None)
IsAnsweredAlone limits names (Find tag) said new = (said ≡ Answers (Refused NoSession)) × (new ≡ None)
IsAnsweredAlone limits names (Keep keep) said new = (said ≡ Answers (Refused NoSession)) × (new ≡ None)
IsAnsweredAlone limits names Info said new = ⊥
IsAnsweredAlone limits names Bye said new = ⊥

-- ---- with a seat or without

-- `info` is answered which store it is, and whether each put reads its keys first
abbrev pub IsInformed : SessionOptions → Request → Option SeatView → Said → Option SeatView → Type 0
IsInformed options request old said new = (request ≡ Info) × (said ≡ Informs options.store options.newest) × (new ≡ old)

-- the store answers to a request
abbrev pub IsAnsweredByStore : SessionOptions → ConfigView → List (List ℕ) → Request → Option SeatView → Said
    → Option SeatView → Type 0
IsAnsweredByStore options hub names request None said new = IsAnsweredAlone hub.limits names request said new
IsAnsweredByStore options hub names request (Some seat) said new =
    (answer : Answer) × (after : SeatView) × (said ≡ Answers answer) × (new ≡ Some after)
    × IsAnsweredAndDrained options.newest hub.epoch (length hub.limits) request seat answer after

-- what a connection to a hub answers to a request, the tenants of which go by these names
abbrev pub IsAnsweredBy : SessionOptions → ConfigView → List (List ℕ) → Request → Option SeatView → Said
    → Option SeatView → Type 0
IsAnsweredBy options hub names request old said new =
    IsInformed options request old said new ⊎ IsAnsweredByStore options hub names request old said new

-- only a put or a get takes memory to be read, and neither is answered while there is no seat
abbrev pub cause_alone : Refusal → Refusal
cause_alone OutOfMemory = NoSession
cause_alone cause = cause

-- what a line is refused for that could not be read for this cause
abbrev pub refused_as : Option SeatView → Refusal → Refusal
refused_as None cause = cause_alone cause
refused_as (Some seat) cause = cause

-- what a line is answered that could not be read: 40, or 30 for an allocation failure for its list
abbrev pub IsUnread : List ℕ → Option SeatView → Said → Type 0
IsUnread line seat said =
    (cause : Refusal) × RefusesLine line cause × (said ≡ Answers (Refused (refused_as seat cause)))

-- What a line is answered: what it asks for, or that it could not be read, and then the seat stays as it was.
abbrev pub IsLineAnswered : SessionOptions → ConfigView → List (List ℕ) → List ℕ → Option SeatView → Said
    → Option SeatView → Type 0
IsLineAnswered options hub names line old said new =
    ((request : Request) × IsServeLine request line × IsAnsweredBy options hub names request old said new)
    ⊎ (IsUnread line old said × (new ≡ old))

-- the options of a session that asks for none
abbrev pub no_options : SessionOptions
no_options = record { strict = false; newest = false; store = 0 }

-- a session goes on behind a line: where it is strict and has no seat, the line could be read
abbrev pub GoesOnBehind : SessionOptions → Option SeatView → List ℕ → Type 0
GoesOnBehind options seat line = IsTrue options.strict → seat ≡ None → IsNoServeLine line → ⊥

-- ---- the end of a session

-- the last line of a session that ends so
abbrev pub last_line : SessionEnd → List ℕ
last_line Silent = []
last_line SaysBye = bye_line
last_line Unread = answer_line (Refused BadLine)
last_line (IsRefused cause) = answer_line (Refused cause)

-- how a session ends whose input ended with these bytes behind its last line
abbrev pub IsEndOfInput : List ℕ → SessionEnd → Type 0
IsEndOfInput held Silent = EndsAs held (Ok tt)
IsEndOfInput held SaysBye = ⊥
IsEndOfInput held Unread = ⊥
IsEndOfInput held (IsRefused cause) = EndsAs held (Err cause)

-- Replies that were given in a journal, entry by entry: for the functions of an operation.
use Rattle.std.proofs.Common.{◌≡◌, ◌<◌, ◌≤◌, ℕ, List, [], ◌∷◌, ◌++◌, Option, Some, Result, Ok, refl, sym, ap, subst, ◌∙◌, arith}
use Rattle.std.specs.Prelude.{IfOk, IsSomeAnd}
use mathlib.Core.List.{IsPrefix}
use Rattle.std.proofs.Math.Logic.{∥∥₁_map}
use Rattle.std.proofs.lemmas.List.{append_assoc, append-nil}
use Rattle.std.proofs.lemmas.List.Elements.{All-nil, All-cons, All-append, All-weaker}
use Rattle.plain_store.specs.declared.answer.Answer.{Answer}
use Rattle.plain_store.specs.declared.step.Act.{Act}
use Rattle.plain_store.specs.declared.calls.Call.{Call}
use Rattle.plain_store.specs.declared.calls.Reply.{Reply}
use Rattle.plain_store.specs.declared.message.Message.{Message}
use Rattle.entry_list.specs.declared.kinds.Entry.{Entry}
use Rattle.entry_list.specs.declared.kinds.Entry.TheVariants.{Began, Took, Answered}
use Rattle.history.specs.declared.rule.Naming.{Ghosts}
use Rattle.shard.specs.declared.jobs.Fault.{Fault}
use Rattle.shard.specs.Journals.{IsServedIn, HasReplyIn, CameSo, served_call}
use Rattle.history.specs.declared.entry.HistoryEntry.{HistoryEntry}
use Rattle.history.specs.declared.entry.Mark.{Mark}
use Rattle.history.proofs.Following.{served_later}
use Rattle.tenant_sessions.specs.Showing.{IsTakenFor}
use Rattle.hub.specs.declared.operation.RunningOperation.{RunningOperation}
use Rattle.plain_store.specs.History.{Intent as Asked}
use Rattle.hub.specs.Replies.{IsServedFor, AreServed, IsOf, IsReplyIn}
use Rattle.hub.specs.Sights.{OperationSight, SeatSight, operation_of, sight_of}
use Rattle.shard.specs.declared.seat_name.SeatName.{SeatName}

pub prefix_is : (seen now : List HistoryEntry) → seen ≡ now → IsPrefix seen now
prefix_is seen now same = ([], append-nil seen ∙ same)

-- whose seat it is, and what it has seen, in other words
pub sights : (one other : SeatName) (seen now : List HistoryEntry) → one ≡ other → seen ≡ now → sight_of one seen ≡ sight_of other now
sights one other seen now named same =
    ap (λ (n : SeatName). sight_of n seen) named ∙ ap (λ (s : List HistoryEntry). sight_of other s) same

-- so of its operation
pub operations : (one other : SeatName) (mark after : Mark) (seen now : List HistoryEntry) → one ≡ other → mark ≡ after → seen ≡ now → operation_of one mark seen ≡ operation_of other after now
operations one other mark after seen now named marked same =
    ap (λ (n : SeatName). operation_of n mark seen) named ∙ ap (λ (m : Mark). operation_of other m seen) marked ∙ ap (λ (s : List HistoryEntry). operation_of other after s) same

-- the same seat, which has seen more
pub record IsLaterSight (old new : SeatSight) : Type 0 where
  pub tenant : new.tenant ≡ old.tenant
  pub seat : new.seat ≡ old.seat
  pub seen : IsPrefix old.seen new.seen

-- the same operation, of which more was seen
pub record IsLaterOperation (old new : OperationSight) : Type 0 where
  pub tenant : new.tenant ≡ old.tenant
  pub seat : new.seat ≡ old.seat
  pub mark : new.mark ≡ old.mark
  pub seen : IsPrefix old.seen new.seen

-- a call that stands in what was seen stands in what is seen later
pub in_later : (seen now : List HistoryEntry) (mark : Mark) (partition tenant seat number place : ℕ) (call : Call) (reply : Reply) → IsPrefix seen now
    → IsServedIn seen mark partition tenant seat number place call reply → IsServedIn now mark partition tenant seat number place call reply
in_later seen now mark partition tenant seat number place call reply pre is = record {
  stands = served_later seen now (served_call partition tenant seat number call) place reply pre is.stands;
  late = is.late;
}

-- and so does one of a seat
pub seen-later : (old new : SeatSight) (mark : Mark) (partition number place : ℕ) (call : Call) (reply : Reply) → IsLaterSight old new
    → IsServedIn old.seen mark partition old.tenant old.seat number place call reply → IsServedIn new.seen mark partition new.tenant new.seat number place call reply
seen-later old new mark partition number place call reply later is =
    let P : ℕ → Type 0 = λ t. IsServedIn new.seen mark partition t new.seat number place call reply in
    let Q : ℕ → Type 0 = λ s. IsServedIn new.seen mark partition old.tenant s number place call reply in
    subst P (sym later.tenant) (subst Q (sym later.seat) (in_later old.seen new.seen mark partition old.tenant old.seat number place call reply later.seen is))

-- and of its operation
pub operation-later : (old new : OperationSight) (partition number place : ℕ) (call : Call) (reply : Reply) → IsLaterOperation old new
    → IsServedIn old.seen old.mark partition old.tenant old.seat number place call reply → IsServedIn new.seen new.mark partition new.tenant new.seat number place call reply
operation-later old new partition number place call reply later is =
    let P : Mark → Type 0 = λ m. IsServedIn new.seen m partition new.tenant new.seat number place call reply in
    subst P (sym later.mark)
    (seen-later (record { tenant = old.tenant; seat = old.seat; seen = old.seen }) (record { tenant = new.tenant; seat = new.seat; seen = new.seen }) old.mark partition number place call reply
    (record { tenant = later.tenant; seat = later.seat; seen = later.seen }) is)

for-later : (old new : SeatSight) (first last : ℕ) (e : Entry) → IsLaterSight old new → IsServedFor old first last e → IsServedFor new first last e
for-later old new first last (Began act) later is = tt
for-later old new first last (Took number partition place reply) later is =
    (is.0, is.1, ∥∥₁_map is.2 (λ given. (given.0, given.1, seen-later old new given.1 partition number place given.0 reply later given.2)))
for-later old new first last (Answered answer) later is = tt

pub served-later : (old new : SeatSight) (first last : ℕ) (start entries : List Entry) → IsLaterSight old new → AreServed old first last start entries → AreServed new first last start entries
served-later old new first last start entries later are = record {
  more = are.more;
  is = are.is;
  served = All-weaker (IsServedFor old first last) (IsServedFor new first last) (λ e. for-later old new first last e later) are.more are.served;
}

-- nothing was entered yet
pub served-start : (name : SeatSight) (first last : ℕ) (start : List Entry) → AreServed name first last start start
served-start name first last start = record { more = []; is = sym (append-nil start); served = All-nil (IsServedFor name first last) }

pub served-more : (name : SeatSight) (first last : ℕ) (start entries : List Entry) (e : Entry) → IsServedFor name first last e → AreServed name first last start entries → AreServed name first last start (entries ++ e ∷ [])
served-more name first last start entries e is are =
    let P : Entry → Type 0 = IsServedFor name first last in
    record {
      more = are.more ++ e ∷ [];
      is = ap (λ (es : List Entry). es ++ e ∷ []) are.is ∙ append_assoc start are.more (e ∷ []);
      served = All-append P are.more (e ∷ []) are.served (All-cons P e [] is (All-nil P));
    }

pub served-began : (name : SeatSight) (first last : ℕ) (start entries : List Entry) (act : Act) → entries ≡ start ++ Began act ∷ [] → AreServed name first last start entries
served-began name first last start entries act is =
    let P : List Entry → Type 0 = λ es. AreServed name first last start es in
    subst P (sym is) (served-more name first last start start (Began act) tt (served-start name first last start))

pub served-answered : (name : SeatSight) (first last : ℕ) (start entries next : List Entry) (answer : Answer) → next ≡ entries ++ Answered answer ∷ [] → AreServed name first last start entries
    → AreServed name first last start next
served-answered name first last start entries next answer is are =
    let P : List Entry → Type 0 = λ es. AreServed name first last start es in
    subst P (sym is) (served-more name first last start entries (Answered answer) tt are)

-- the last may be a later one
pub wider : (name : SeatSight) (first last later : ℕ) (e : Entry) → last ≤ later → IsServedFor name first last e → IsServedFor name first later e
wider name first last later (Began act) most is = tt
wider name first last later (Took number partition place reply) most is = (is.0, omega (arith, is.1, most), is.2)
wider name first last later (Answered answer) most is = tt

-- and the same entries
pub served-same : (name other : SeatSight) (first since last later : ℕ) (start entries next : List Entry) → other ≡ name → since ≡ first → last ≤ later → next ≡ entries → AreServed name first last start entries
    → AreServed other since later start next
served-same name other first since last later start entries next same begun most is are =
    let P : List Entry → Type 0 = λ es. AreServed name first later start es in
    let Q : SeatSight → Type 0 = λ n. AreServed n first later start next in
    let R : ℕ → Type 0 = λ n. AreServed other n later start next in
    let all : AreServed name first later start entries = record { more = are.more; is = are.is; served = All-weaker (IsServedFor name first last) (IsServedFor name first later) (λ e. wider name first last later e most) are.more are.served } in
    subst R (sym begun) (subst Q (sym same) (subst P (sym is) all))

-- the first may be an earlier one
earlier : (name : SeatSight) (first since last : ℕ) (e : Entry) → first ≤ since → IsServedFor name since last e → IsServedFor name first last e
earlier name first since last (Began act) before is = tt
earlier name first since last (Took number partition place reply) before is = (omega (arith, is.0, before), is.1, is.2)
earlier name first since last (Answered answer) before is = tt

-- what two operations entered, one behind the other
pub served-both : (name other : SeatSight) (first since last : ℕ) (start entries next : List Entry) → other ≡ name → first ≤ since → since ≤ last → AreServed name first since start entries → AreServed other since last entries next
    → AreServed name first last start next
served-both name other first since last start entries next same before most one two =
    let P : Entry → Type 0 = IsServedFor name first last in
    let Q : SeatSight → Type 0 = λ n. AreServed n since last entries next in
    let later : AreServed name since last entries next = subst Q same two in
    record {
      more = one.more ++ later.more;
      is = later.is ∙ ap (λ (es : List Entry). es ++ later.more) one.is ∙ append_assoc start one.more later.more;
      served = All-append P one.more later.more (All-weaker (IsServedFor name first since) P (λ e. wider name first since last e most) one.more one.served)
          (All-weaker (IsServedFor name since last) P (λ e. earlier name first since last e before) later.more later.served);
    }

-- an operation that has staged more calls, and entered nothing
abbrev pub IsStagedOn : {G : Type 0} {naming : Ghosts G} → RunningOperation G naming → RunningOperation G naming → Type 0
IsStagedOn old new =
    (new.name ≡ old.name) × (new.first ≡ old.first) × (old.dispatcher.sent ≤ new.dispatcher.sent) × (new.entries ≡ old.entries) × (new.seen ≡ old.seen)
    × (new.session ≡ old.session) × (new.place ≡ old.place) × (new.mark ≡ old.mark)

-- a reply that came to the seat
came-given : (name : SeatSight) (seen : List HistoryEntry) (mark : Mark) (partition tenant seat number place : ℕ) (message : Message) (outcome : Result ℕ Fault) (reply : Reply)
    → IsPrefix seen name.seen → outcome ≡ Ok place → message.reply ≡ Some reply → tenant ≡ name.tenant → seat ≡ name.seat
    → CameSo seen mark partition tenant seat number message outcome → ∥ IsServedIn name.seen mark partition name.tenant name.seat number place message.call reply ∥₁
came-given name seen mark partition tenant seat number place message outcome reply pre is has its own came =
    let P : Result ℕ Fault → Type 0 = λ r. IfOk r (HasReplyIn seen mark partition tenant seat number message) in
    let Q : Option Reply → Type 0 = λ r. IsSomeAnd r (λ told. IsServedIn seen mark partition tenant seat number place message.call told) in
    let R : ℕ → Type 0 = λ t. IsServedIn seen mark partition t seat number place message.call reply in
    let S : ℕ → Type 0 = λ s. IsServedIn seen mark partition name.tenant s number place message.call reply in
    ∥∥₁_map came (λ ok. in_later seen name.seen mark partition name.tenant name.seat number place message.call reply pre (subst S own (subst R its (subst Q has (subst P is ok)))))

pub came-served : (name : SeatSight) (seen : List HistoryEntry) (mark : Mark) (first last partition tenant seat number place : ℕ) (message : Message) (outcome : Result ℕ Fault) (reply : Reply)
    → IsPrefix seen name.seen → outcome ≡ Ok place → message.reply ≡ Some reply → tenant ≡ name.tenant → seat ≡ name.seat → first < number → number ≤ last
    → CameSo seen mark partition tenant seat number message outcome → IsServedFor name first last (Took number partition place reply)
came-served name seen mark first last partition tenant seat number place message outcome reply pre is has its own behind up_to came =
    (behind, up_to, ∥∥₁_map (came-given name seen mark partition tenant seat number place message outcome reply pre is has its own came) (λ given. (message.call, mark, given)))

-- and that its session takes as one to this message
pub came-taken : (name : OperationSight) (seen : List HistoryEntry) (mark : Mark) (asked : Asked) (partition tenant seat number place : ℕ) (message meant : Message) (outcome : Result ℕ Fault) (reply : Reply)
    → IsPrefix seen name.seen → outcome ≡ Ok place → message.reply ≡ Some reply → tenant ≡ name.tenant → seat ≡ name.seat → mark ≡ name.mark
    → CameSo seen mark partition tenant seat number message outcome → IsOf asked message.call → message.partition ≡ partition → IsTakenFor message meant → IsReplyIn name asked meant (Took number partition place reply)
came-taken name seen mark asked partition tenant seat number place message meant outcome reply pre is has its own marked came of at taken =
    let P : Mark → Type 0 = λ m. IsServedIn name.seen m partition name.tenant name.seat number place message.call reply in
    (taken.reply ∙ has, ∥∥₁_map (came-given (record { tenant = name.tenant; seat = name.seat; seen = name.seen }) seen mark partition tenant seat number place message outcome reply pre is has its own came) (λ given. (message.call, taken.call, of, subst P marked given)), taken.partition ∙ at)

-- a reply that is entered
pub served-took : (name before : SeatSight) (seen : List HistoryEntry) (mark : Mark) (first last : ℕ) (start entries next : List Entry) (partition tenant seat number place : ℕ) (message : Message) (outcome : Result ℕ Fault) (reply : Reply)
    → IsPrefix seen before.seen → next ≡ entries ++ Took number partition place reply ∷ [] → name ≡ before → outcome ≡ Ok place → message.reply ≡ Some reply → tenant ≡ before.tenant → seat ≡ before.seat
    → first < number → number ≤ last → CameSo seen mark partition tenant seat number message outcome → AreServed before first last start entries → AreServed name first last start next
served-took name before seen mark first last start entries next partition tenant seat number place message outcome reply pre took same is has its own behind up_to came are =
    served-same before name first first last last start (entries ++ Took number partition place reply ∷ []) next same refl (omega arith) took
    (served-more before first last start entries _ (came-served before seen mark first last partition tenant seat number place message outcome reply pre is has its own behind up_to came) are)

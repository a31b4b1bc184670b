-- What is found by place.
use Rattle.std.proofs.Common.{◌≡◌, ◌-◌, ℕ, zero, suc, List, Bool, true, false, IsTrue, ◌↔◌, cond, slice_get, Option, Some, None, refl, ap, sym, ◌∙◌, eq-eqb, arith}
use Rattle.std.specs.Prelude.{nat_eq}
use Rattle.std.proofs.lemmas.Bool.{ne_eqb}
use Rattle.plain_store.specs.Words.{Setup}
use Rattle.plain_store.specs.History.{History, keep_in}
use Rattle.settle.specs.Words.{Call, Collect, CollectAt, Message}
use Rattle.settle.specs.Standing.{call_in, call_coming}
use Rattle.std.specs.Option.{option_map}
use Rattle.partition.specs.Events.{Event}
use Rattle.partition.specs.PackedEvents.{caller_of}
use Rattle.settle.specs.Program.{at_place}
use Rattle.settle.specs.Fronts.{IsEventOf}
use Rattle.settle.proofs.Words.{some_is}

-- a place from 1 on, as one from 0 on
pub at_before : {X : Type 0} (xs : List X) (place : ℕ) → (place ≡ 0 → ⊥) → slice_get xs (place - 1) ≡ at_place xs place
at_before xs zero apart = absurd (let same : 0 ≡ 0 = cc in apart same)
at_before xs (suc n) apart = let same : suc n - 1 ≡ n = omega arith in ap (slice_get xs) same

-- whose seat and number they are stands there
pub called_there : (o : Option Event) (seat number : ℕ) → Some (seat, number) ≡ option_map caller_of o → (event : Event) × (o ≡ Some event) × (event.seat ≡ seat) × (event.number ≡ number)
called_there None seat number is = absurd (let bad : Some (seat, number) ≡ None = is in cc)
called_there (Some event) seat number is =
    let same : (seat, number) ≡ caller_of event = some_is (seat, number) (caller_of event) is in
    (event, refl, ap (λ (p : ℕ × ℕ). p.0) (sym same), ap (λ (p : ℕ × ℕ). p.1) (sym same))

-- where nobody called, no event stands
pub none_calls : (o : Option Event) (event : Event) → None ≡ option_map caller_of o → o ≡ Some event → ⊥
none_calls o event none is = let bad : None ≡ Some (caller_of event) = none ∙ ap (option_map caller_of) is in cc

-- where no event stands, none is that of a call
pub no_caller : (events : List Event) (seat number place : ℕ) → None ≡ option_map caller_of (at_place events place) → IsEventOf events seat number place → ⊥
no_caller events seat number place none is = let bad : None ≡ Some (caller_of is.event) = none ∙ ap (option_map caller_of) is.there in cc

-- the event that stands at the place is that of the call
pub of_call : (events : List Event) (seat number place its_seat its_number : ℕ) → Some (its_seat, its_number) ≡ option_map caller_of (at_place events place) → IsEventOf events seat number place
    → (its_seat ≡ seat) × (its_number ≡ number)
of_call events seat number place its_seat its_number there is =
    let same : (its_seat, its_number) ≡ caller_of is.event = some_is (its_seat, its_number) (caller_of is.event) (there ∙ ap (option_map caller_of) is.there) in
    (ap (λ (p : ℕ × ℕ). p.0) same ∙ is.of_seat, ap (λ (p : ℕ × ℕ). p.1) same ∙ is.of_number)

pub is_call : (events : List Event) (seat number place its_seat its_number : ℕ) → Some (its_seat, its_number) ≡ option_map caller_of (at_place events place) → its_seat ≡ seat → its_number ≡ number
    → IsEventOf events seat number place
is_call events seat number place its_seat its_number there of_seat of_number =
    let found = called_there (at_place events place) its_seat its_number there in
    record { event = found.0; there = found.1; of_seat = found.2 ∙ of_seat; of_number = found.3 ∙ of_number }

-- ---- the call that a step would bring to a partition

-- a message's, at its partition
pub call_here : (partition : ℕ) (call : Call) (message : Message) (same : Bool) → message.partition ≡ partition → (IsTrue same ↔ (call ≡ message.call)) → IsTrue same ↔ (call_in partition (Some message) ≡ Some call)
call_here partition call message same here tells =
    let is : call_in partition (Some message) ≡ Some message.call = ap (λ t. cond t (Some message.call) None) (eq-eqb message.partition partition here) in
    (λ yes. is ∙ ap Some (sym (tells.0 yes)), λ e. tells.1 (some_is call message.call (sym e ∙ is)))

-- none, at another
pub call_elsewhere : (partition : ℕ) (call : Call) (message : Message) → (message.partition ≡ partition → ⊥) → IsTrue (nat_eq message.partition partition) ↔ (call_in partition (Some message) ≡ Some call)
call_elsewhere partition call message apart =
    let test : nat_eq message.partition partition ≡ false = ne_eqb message.partition partition apart in (
      λ yes. let bad : false ≡ true = sym test ∙ yes in cc,
      λ e. let bad : None ≡ Some call = sym (ap (λ t. cond t (Some message.call) None) test) ∙ e in cc,
    )

-- none, where there is no message
pub call_nowhere : (partition : ℕ) (call : Call) → IsTrue false ↔ (call_in partition None ≡ Some call)
call_nowhere partition call = (
  λ no. let bad : false ≡ true = no in cc,
  λ e. let bad : None ≡ Some call = e in cc,
)

-- a collection's, which keeps what is in force
pub collects_here : (setup : Setup) (history : History) (partition place keep : ℕ) (call : Call) (same : Bool) → place ≡ partition → keep ≡ keep_in setup history → (IsTrue same ↔ (call ≡ Collect keep))
    → IsTrue same ↔ (call_coming setup history partition (CollectAt place) ≡ Some call)
collects_here setup history partition place keep call same here kept tells =
    let is : call_coming setup history partition (CollectAt place) ≡ Some (Collect keep) = ap (λ t. cond t (Some (Collect (keep_in setup history))) None) (eq-eqb place partition here) ∙ ap (λ k. Some (Collect k)) (sym kept) in
    (λ yes. is ∙ ap Some (sym (tells.0 yes)), λ e. tells.1 (some_is call (Collect keep) (sym e ∙ is)))

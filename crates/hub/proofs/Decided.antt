-- What a client got that asked for a session: for `seat_with_check`.
use Rattle.std.proofs.Common.{◌≡◌, ◌<◌, ℕ, true, List, length, get_or, Option, Some, None, Result, Ok, Err, ap, refl, subst, sym, ◌∙◌, slice_get}
use Rattle.std.specs.Prelude.{IfErr, IfSome}
use Rattle.std.proofs.lemmas.Option.{slice_get_read}
use Rattle.stamps.specs.declared.bounds.Limits.{Limits}
use Rattle.plain_store.specs.declared.refusal.Refusal.{Refusal}
use Rattle.plain_store.specs.declared.refusal.Refusal.TheVariants.{Busy, OutOfMemory}
use Rattle.traced_client.specs.Clients.{is_of_word}
use Rattle.hub.specs.Registered.{IsDecidedBy, IsNamedBy, admission_test, check_of, clients_of, known_of, next_session}
use Rattle.hub.specs.Seats.{SeatView}
use Rattle.hub.specs.declared.clients.AdmissionCheck.{AdmissionCheck}
use Rattle.hub.specs.declared.register.Admission.{Admission}
use Rattle.hub.specs.declared.register.KnownClient.{KnownClient}
use Rattle.hub.specs.declared.register.Register.{Register}

pub at_limits : (limits list : List Limits) (tenant : ℕ) (its : Limits) (P : Limits → Type 0) → list ≡ limits → tenant < length list → its ≡ get_or list tenant its → P its → IfSome (slice_get limits tenant) P
at_limits limits list tenant its P same within is holds =
    subst (λ (l : List Limits). IfSome (slice_get l tenant) P) same
    (subst (λ (o : Option Limits). IfSome o P) (sym (slice_get_read list (length list) tenant its refl within is)) holds)

-- the test of the register is that of the check
test_is : (register : Register) (tenant client most : ℕ) (check : AdmissionCheck) (test : Option Refusal) → check.seats ≡ register.seats → check.clients ≡ clients_of register tenant
    → check.known ≡ known_of register tenant client → admission_test check.seats check.clients check.known most ≡ test
    → admission_test register.seats (clients_of register tenant) (known_of register tenant client) most ≡ test
test_is register tenant client most check test seats clients known is =
    subst (λ (n : ℕ). admission_test n (clients_of register tenant) (known_of register tenant client) most ≡ test) seats
    (subst (λ (n : ℕ). admission_test check.seats n (known_of register tenant client) most ≡ test) clients
    (subst (λ (k : Option KnownClient). admission_test check.seats check.clients k most ≡ test) known is))

err_is : (offered : Result Admission Refusal) (cause other : Refusal) → offered ≡ Err cause → offered ≡ Err other → cause ≡ other
err_is offered cause other one two = let same : Err cause ≡ Err other = sym one ∙ two in cc

offers : {P : Type 0} (offered : Result Admission Refusal) (admission : Admission) (cause : Refusal) → offered ≡ Ok admission → offered ≡ Err cause → P
offers offered admission cause one two = cc

word_of_memory : (offered : Result Admission Refusal) (refusal : Refusal) (check : AdmissionCheck) → offered ≡ Err refusal → IfErr offered (λ e. e ≡ OutOfMemory)
    → (is_of_word refusal ≡ true) × (refusal ≡ Busy → check.is_taken ≡ true)
word_of_memory (Ok admission) refusal check is memory = absurd (cc is)
word_of_memory (Err cause) refusal check is memory =
    let same : refusal ≡ OutOfMemory = sym (err_is (Err cause) cause refusal refl is) ∙ memory in
    (ap is_of_word same, λ busy. absurd (let bad : Busy ≡ OutOfMemory = sym busy ∙ same in cc))

-- the register refused it
pub by_offer : (register : Register) (tenant client most base : ℕ) (check : AdmissionCheck) (offered : Result Admission Refusal) (refusal : Refusal)
    → check ≡ check_of register tenant client → offered ≡ Err refusal
    → ((cause : Refusal) → admission_test register.seats (clients_of register tenant) (known_of register tenant client) most ≡ Some cause → offered ≡ Err cause)
    → (admission_test register.seats (clients_of register tenant) (known_of register tenant client) most ≡ None → IfErr offered (λ e. e ≡ OutOfMemory))
    → IsDecidedBy check tenant client most base (Err refusal)
by_offer register tenant client most base check offered refusal is err refused passed =
    let seats = ap (λ (k : AdmissionCheck). k.seats) is in
    let clients = ap (λ (k : AdmissionCheck). k.clients) is in
    let known = ap (λ (k : AdmissionCheck). k.known) is in record {
      whose = (ap (λ (k : AdmissionCheck). k.tenant) is, ap (λ (k : AdmissionCheck). k.client) is);
      tested = λ cause fails. ap Err (err_is offered refusal cause err (refused cause (test_is register tenant client most check (Some cause) seats clients known fails)));
      passed = λ passes. word_of_memory offered refusal check err (passed (test_is register tenant client most check None seats clients known passes));
      next = tt;
    }

-- it offered a session, and there is none
pub by_word : (register : Register) (tenant client most base : ℕ) (check : AdmissionCheck) (offered : Result Admission Refusal) (admission : Admission) (refusal : Refusal)
    → (check.tenant ≡ tenant) × (check.client ≡ client) → check.seats ≡ register.seats → check.clients ≡ clients_of register tenant → check.known ≡ known_of register tenant client → offered ≡ Ok admission
    → ((cause : Refusal) → admission_test register.seats (clients_of register tenant) (known_of register tenant client) most ≡ Some cause → offered ≡ Err cause)
    → is_of_word refusal ≡ true → (refusal ≡ Busy → check.is_taken ≡ true) → IsDecidedBy check tenant client most base (Err refusal)
by_word register tenant client most base check offered admission refusal whose seats clients known ok refused word taken = record {
  whose = whose;
  tested = λ cause fails. offers offered admission cause ok (refused cause (test_is register tenant client most check (Some cause) seats clients known fails));
  passed = λ passes. (word, taken);
  next = tt;
}

-- it has its session
pub by_seat : (register : Register) (tenant client most base : ℕ) (check : AdmissionCheck) (offered : Result Admission Refusal) (admission : Admission) (seat : SeatView)
    → (check.tenant ≡ tenant) × (check.client ≡ client) → check.seats ≡ register.seats → check.clients ≡ clients_of register tenant → check.known ≡ known_of register tenant client → offered ≡ Ok admission
    → ((cause : Refusal) → admission_test register.seats (clients_of register tenant) (known_of register tenant client) most ≡ Some cause → offered ≡ Err cause)
    → admission ≡ next_session register.seats (known_of register tenant client) base → IsNamedBy admission seat.name → IsDecidedBy check tenant client most base (Ok seat)
by_seat register tenant client most base check offered admission seat whose seats clients known ok refused next named = record {
  whose = whose;
  tested = λ cause fails. offers offered admission cause ok (refused cause (test_is register tenant client most check (Some cause) seats clients known fails));
  passed = λ passes. tt;
  next =
      subst (λ (n : ℕ). IsNamedBy (next_session n check.known base) seat.name) (sym seats)
      (subst (λ (k : Option KnownClient). IsNamedBy (next_session register.seats k base) seat.name) (sym known) (subst (λ (a : Admission). IsNamedBy a seat.name) next named));
}

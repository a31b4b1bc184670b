-- Why a client got no session: for `seat`.
use Rattle.std.proofs.Common.{◌≡◌, ◌≤◌, ◌<◌, ◌⊎◌, inl, inr, ℕ, Bool, true, false, cond, List, Option, Some, None, Result, Ok, Err, length, ap, refl, subst, sym, ◌∙◌, nat_le, nat_lt, slice_get, get_or}
use Rattle.std.specs.Prelude.{IfErr, IfSome, IsErrOf, ◌||◌, ◌^◌, ◌↔◌}
use Rattle.std.proofs.lemmas.Option.{slice_get_cases}
use Rattle.stamps.specs.declared.bounds.Limits.{Limits}
use Rattle.plain_store.specs.declared.refusal.Refusal.{Refusal}
use Rattle.plain_store.specs.declared.refusal.Refusal.TheVariants.{NoTenant, Busy, ClientsFull, RowsUsed, OutOfMemory}
use Rattle.traced_client.specs.Clients.{is_of_word}
use Rattle.hub.specs.Registered.{IsDecidedBy, admission_test, has_session, is_known, is_unopened, tickets_of}
use Rattle.hub.specs.Seats.{SeatView}
use Rattle.hub.specs.declared.clients.AdmissionCheck.{AdmissionCheck}

-- a test that is not passed gives one of three refusals
of_tests : (busy full used : Bool) (refusal : Refusal) → cond busy (Some Busy) (cond full (Some ClientsFull) (cond used (Some RowsUsed) None)) ≡ Some refusal → is_unopened refusal ≡ true
of_tests true full used refusal is = let same : Busy ≡ refusal = cc in ap is_unopened (sym same)
of_tests false true used refusal is = let same : ClientsFull ≡ refusal = cc in ap is_unopened (sym same)
of_tests false false true refusal is = let same : RowsUsed ≡ refusal = cc in ap is_unopened (sym same)
of_tests false false false refusal is = cc

-- so does a word that is not given
of_word : (refusal : Refusal) → is_of_word refusal ≡ true → is_unopened refusal ≡ true
of_word Busy is = refl
of_word RowsUsed is = refl
of_word OutOfMemory is = refl
of_word refusal is = absurd (cc is)

err_is : (cause other : Refusal) (opened : Result SeatView Refusal) → opened ≡ Err cause → opened ≡ Err other → cause ≡ other
err_is cause other opened one two = let same : Err cause ≡ Err other = sym one ∙ two in cc

by_test : (check : AdmissionCheck) (tenant client most base : ℕ) (cause : Refusal) (opened : Result SeatView Refusal) (test : Option Refusal) → opened ≡ Err cause
    → admission_test check.seats check.clients check.known most ≡ test → IsDecidedBy check tenant client most base opened → is_unopened cause ≡ true
by_test check tenant client most base cause opened None err passes decided =
    of_word cause (subst (λ (o : Result SeatView Refusal). IfErr o (λ refusal. (is_of_word refusal ≡ true) × (refusal ≡ Busy → check.is_taken ≡ true))) err (decided.passed passes)).0
by_test check tenant client most base cause opened (Some refusal) err fails decided =
    ap is_unopened (err_is cause refusal opened err (decided.tested refusal fails))
    ∙ of_tests (has_session check.known) (cond (is_known check.known) false (nat_le most check.clients)) (nat_le (2 ^ 62) check.seats || nat_lt (2 ^ 62) (tickets_of check.known)) refusal fails

by_tenant : (limits : List Limits) (tenant client base : ℕ) (check : AdmissionCheck) (cause : Refusal) (opened : Result SeatView Refusal) → opened ≡ Err cause
    → (IsErrOf opened NoTenant ↔ (length limits ≤ tenant)) → IfSome (slice_get limits tenant) (λ its. IsDecidedBy check tenant client its.clients base opened)
    → ((x : Limits) × (tenant < length limits) × (slice_get limits tenant ≡ Some x) × (get_or limits tenant x ≡ x)) ⊎ ((length limits ≤ tenant) × (slice_get limits tenant ≡ None))
    → (cause ≡ NoTenant) ⊎ (is_unopened cause ≡ true)
by_tenant limits tenant client base check cause opened err exact decided (inl its) =
    inr (by_test check tenant client its.0.clients base cause opened _ err refl (subst (λ (o : Option Limits). IfSome o (λ its. IsDecidedBy check tenant client its.clients base opened)) its.2 decided))
by_tenant limits tenant client base check cause opened err exact decided (inr past) = inl (err_is cause NoTenant opened err (exact.1 past.0))

pub seat_refused : (limits : List Limits) (tenant client base : ℕ) (check : AdmissionCheck) (opened : Result SeatView Refusal) → (IsErrOf opened NoTenant ↔ (length limits ≤ tenant))
    → IfSome (slice_get limits tenant) (λ its. IsDecidedBy check tenant client its.clients base opened) → IfErr opened (λ refusal. (refusal ≡ NoTenant) ⊎ (is_unopened refusal ≡ true))
seat_refused limits tenant client base check (Ok seat) exact decided = tt
seat_refused limits tenant client base check (Err cause) exact decided = by_tenant limits tenant client base check cause (Err cause) refl exact decided (slice_get_cases limits tenant).1

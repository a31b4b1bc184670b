-- Accounts that begin anew.
use Rattle.std.proofs.Common.{◌≡◌, ◌∙◌, ℕ, List, [], Some, ⊎_elim, ap, sym, subst, arith}
use Rattle.std.specs.Prelude.{slice_get}
use Rattle.std.proofs.lemmas.Option.{same_Some, slice_get_cases, slice_get_past, slice_get_within}
use Rattle.partition.specs.Accounts.{Account, events_at, events_in}
use Rattle.traced_book.specs.Forgetting.{AreBegunAnew, BeginsAnew}

-- the account of which one began anew
pub begun_of : (old new : List Account) (tenant : ℕ) (now : Account) → AreBegunAnew old new → slice_get new tenant ≡ Some now
    → (account : Account) × (slice_get old tenant ≡ Some account) × BeginsAnew account now
begun_of old new tenant now begun is =
    let within = slice_get_within new tenant now is in
    ⊎_elim
    (λ h.
    let its = begun.each tenant h.0 h.2 in
    let same : its.0 ≡ now = same_Some its.0 now (sym its.2 ∙ is) in
    (h.0, h.2, subst (BeginsAnew h.0) same its.1))
    (λ h. absurd (omega (arith, h.0, within, begun.tenants)))
    (slice_get_cases old tenant).1

-- it has no event
pub none_left : (old new : List Account) (tenant : ℕ) → AreBegunAnew old new → events_at new tenant ≡ []
unfolding events_at
none_left old new tenant begun =
    ⊎_elim
    (λ h. ap events_in h.2 ∙ (begun_of old new tenant h.0 begun h.2).2.none)
    (λ h. ap events_in (slice_get_past new tenant h.0))
    (slice_get_cases new tenant).1

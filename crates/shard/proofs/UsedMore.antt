-- The usages of tenants, one after another: for `ShardState::put_usages`.
use Rattle.std.proofs.Common.{◌≡◌, ◌<◌, ◌+◌, ℕ, List, [], ◌∷◌, ◌++◌, Option, Some, length, length-take-le, take, arith, sym, ap, ◌∙◌, subst, inl, inr}
use Rattle.std.specs.Prelude.{slice_get, unwrap_or}
use Rattle.std.proofs.lemmas.List.{take_more}
use Rattle.std.proofs.lemmas.Option.{slice_get_cases}
use Rattle.partition.specs.Accounts.{Account}
use Rattle.partition.specs.Used.{IsUsageOf}
use Rattle.shard.specs.UsedAt.{AreUsagesOf, IsUsed}
use Rattle.shard.specs.declared.usages.TenantUsage.{TenantUsage}

AreUsagesOf-append : (accounts : List Account) (counts : List ℕ) (usages : List TenantUsage) (account : Account) (count : ℕ) (its : TenantUsage)
    → AreUsagesOf accounts counts usages → slice_get counts (length accounts) ≡ Some count → IsUsed account count its
    → AreUsagesOf (accounts ++ account ∷ []) counts (usages ++ its ∷ [])
AreUsagesOf-append [] (first ∷ counts) [] account count its all there one =
    ((one.0, one.1 ∙ sym (ap (λ (found : Option ℕ). unwrap_or found 0) there)), tt)
AreUsagesOf-append [] [] [] account count its all there one = cc
AreUsagesOf-append [] counts (u ∷ us) account count its all there one = absurd all
AreUsagesOf-append (first ∷ accounts) [] usages account count its all there one = absurd all
AreUsagesOf-append (first ∷ accounts) (c ∷ counts) [] account count its all there one = absurd all
AreUsagesOf-append (first ∷ accounts) (c ∷ counts) (u ∷ us) account count its all there one =
    (all.0, AreUsagesOf-append accounts counts us account count its all.1 there one)

-- what one tenant more uses
pub used_more : (accounts : List Account) (counts : List ℕ) (usages : List TenantUsage) (n count : ℕ) (its : TenantUsage) → n < length accounts
    → AreUsagesOf (take n accounts) counts usages → slice_get counts n ≡ Some count → its.collections ≡ count
    → ((account : Account) → slice_get accounts n ≡ Some account → IsUsageOf account its.usage) → AreUsagesOf (take (n + 1) accounts) counts (usages ++ its ∷ [])
used_more accounts counts usages n count its within so_far there counted own = elim (slice_get_cases accounts n).1 [
  | inl found ↦
      let more : take (n + 1) accounts ≡ take n accounts ++ found.0 ∷ [] =
      take_more accounts n found.0 within ∙ ap (λ (a : Account). take n accounts ++ a ∷ []) found.3 in
      let next : slice_get counts (length (take n accounts)) ≡ Some count =
      ap (λ (k : ℕ). slice_get counts k) (length-take-le n accounts (omega (arith, within))) ∙ there in
      subst (λ (xs : List Account). AreUsagesOf xs counts (usages ++ its ∷ [])) (sym more)
      (AreUsagesOf-append (take n accounts) counts usages found.0 count its so_far next (own found.0 found.2, counted))
  | inr past ↦ absurd (omega (arith, within, past.0))
]

-- A list of versions in the order of their stamps, and two such lists of which none has a stamp of the other.
use Rattle.std.specs.Prelude.{◌≡◌, ◌⊎◌, ℕ, ◌==◌, nat_le, nat_lt, List, count_by, true, false}
use Rattle.std.specs.List.Sorted.{IsNonDecreasingBy, IsPartitionPoint}
use Rattle.version_chain.specs.declared.stamp_list.Kept.{Kept}

-- how many versions there is room for, and those that are listed
pub record KeptListing : Type 0 where
  pub room : ℕ
  pub kept : List Kept

-- no stamp is below one before it
abbrev pub Ascends : List Kept → Type 0
Ascends kept = IsNonDecreasingBy (λ (k : Kept). k.stamp) kept

-- before this place each stamp is at most this one, and from there on none is
abbrev pub EndsAtMost : List Kept → ℕ → ℕ → Type 0
EndsAtMost kept stamp = IsPartitionPoint (λ (k : Kept). nat_le k.stamp stamp ≡ true) (λ (k : Kept). nat_le k.stamp stamp ≡ false) kept

-- before this place each stamp is below this one, and from there on none is
abbrev pub EndsBelow : List Kept → ℕ → ℕ → Type 0
EndsBelow kept stamp = IsPartitionPoint (λ (k : Kept). nat_lt k.stamp stamp ≡ true) (λ (k : Kept). nat_lt k.stamp stamp ≡ false) kept

-- how many versions of this stamp a list has
abbrev pub count_at : ℕ → List Kept → ℕ
count_at stamp kept = count_by (λ (k : Kept). k.stamp == stamp) kept

-- each stamp stands in one of the lists at most
abbrev pub AreApart : List Kept → List Kept → Type 0
AreApart one other = (stamp : ℕ) → (count_at stamp one ≡ 0) ⊎ (count_at stamp other ≡ 0)

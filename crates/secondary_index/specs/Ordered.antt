-- Lists in the order of their elements' keys.
use Rattle.std.specs.Prelude.{◌≡◌, ℕ, ◌<◌, ◌≤◌, IsTrue, List, map, length, slice_index_or}
use Rattle.std.specs.List.{AllWithin}
use Rattle.std.specs.FinMap.{is_sorted}
use Rattle.std.specs.declared.cmp.Ordering.{Ordering}
use Rattle.std.specs.declared.cmp.Ordering.TheVariants.{Less}

module _ {E K X : Type 0} (R : K → K → Ordering) (row : E → K × X) where
  -- each key is below the next
  abbrev pub IsInOrder : List E → Type 0
  IsInOrder xs = IsTrue (is_sorted R (map row xs))

  -- the element with this key is the one at this index
  pub record StandsAt (key : K) (xs : List E) (index : ℕ) : Type 0 where
    pub within : index < length xs
    pub is : (other : E) → (row (slice_index_or xs index other)).0 ≡ key

  -- no element has this key, and one would go in at this index
  pub record BelongsAt (key : K) (xs : List E) (index : ℕ) : Type 0 where
    pub within : index ≤ length xs
    pub below : AllWithin (λ x. R (row x).0 key ≡ Less) xs 0 index
    pub above : AllWithin (λ x. R key (row x).0 ≡ Less) xs index (length xs)

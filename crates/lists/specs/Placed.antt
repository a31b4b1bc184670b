-- How a list lies in its rows. No public clause cites this module.
use Rattle.std.specs.Prelude.{◌≡◌, ◌⊎◌, ℕ, ◌+◌, ◌<◌, ◌≤◌, ◌==◌, List, [], ◌∷◌, ◌++◌, length, Option, Some, None}
use Rattle.std.specs.Prelude.{slice_get, slice_set, count_by}

-- each number is below the bound
abbrev pub AreBelow : ℕ → List ℕ → Type 0
AreBelow bound [] = Unit {0}
AreBelow bound (place ∷ places) = (place < bound) × AreBelow bound places

module _ {T : Type 0} where
  -- an element before a list, where there is one
  abbrev pub in_front : Option T → List T → List T
  in_front None rest = rest
  in_front (Some x) rest = x ∷ rest

  -- the elements in these rows
  abbrev pub listed : List T → List ℕ → List T
  listed rows [] = []
  listed rows (place ∷ places) = in_front (slice_get rows place) (listed rows places)

  -- each row is that of one element or is free, and there are no more than there is room for
  pub record ArePlaced (room : ℕ) (rows : List T) (places free : List ℕ) : Type 0 where
    pub within : AreBelow (length rows) places
    pub free_within : AreBelow (length rows) free
    pub once : (place : ℕ) → count_by (λ p. p == place) places + count_by (λ p. p == place) free ≤ 1
    pub counted : length places + length free ≡ length rows
    pub fits : length rows ≤ room

  -- the element came into a row that was free, or into a new one
  abbrev pub IsPut : List T → List ℕ → T → List T → List ℕ → ℕ → Type 0
  IsPut old free value new left place =
      ((free ≡ left ++ place ∷ []) × (new ≡ slice_set old place value))
      ⊎ ((free ≡ []) × (left ≡ []) × (place ≡ length old) × (new ≡ old ++ value ∷ []))

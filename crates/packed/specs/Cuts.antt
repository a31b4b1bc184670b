-- Bytes, or other elements, that are cut into pieces, one behind the other.
use Rattle.std.specs.Prelude.{◌≡◌, ◌≤◌, ℕ, zero, suc, List, [], ◌∷◌, slice_range, slice_index}

-- the pieces end at these places, of which none is below the one before it, and the last is at the end of the bytes
abbrev pub IsCut : ℕ → List ℕ → ℕ → Type 0
IsCut start [] total = start ≡ total
IsCut start (end ∷ ends) total = (start ≤ end) × IsCut end ends total

-- the pieces, of which the first begins at this place
abbrev pub pieces : {X : Type 0} → List X → ℕ → List ℕ → List (List X)
pieces all start [] = []
pieces all start (end ∷ ends) = slice_range all start end ∷ pieces all end ends

-- where a piece begins: where the one before it ends
abbrev pub start_of : ℕ → List ℕ → ℕ → ℕ
start_of start ends zero = start
start_of start ends (suc before) = slice_index ends before

-- what contracts see of a packed list: its entries, and how many more entries and bytes it has room for
pub record Entries : Type 0 where
  pub items : List (List ℕ)
  pub places : ℕ
  pub bytes : ℕ

-- What stands at a place of a row.
use Rattle.std.specs.Prelude.{◌≡◌, ℕ, List, Option, Some, None, All, length, slice_get, vec_len}
use Rattle.std.specs.Global.{Vec}

abbrev pub in_row : {X : Type 0} → Option (Vec X) → ℕ → Option X
in_row None place = None
in_row (Some row) place = slice_get row.items place

-- what stands there, row by row
abbrev pub at_place : {X : Type 0} → List (Vec X) → ℕ → ℕ → Option X
at_place rows row place = in_row (slice_get rows row) place

-- there is a place for each of so many tenants at each of so many partitions, and no other
pub record HavePlaces {X : Type 0} (rows : List (Vec X)) (parts tenants : ℕ) : Type 0 where
  pub parts_are : length rows ≡ parts
  pub tenants_are : All (λ (row : Vec X). vec_len row ≡ tenants) rows

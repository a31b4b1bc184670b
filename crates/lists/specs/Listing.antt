-- What contracts see of a list.
use Rattle.std.specs.Prelude.{ℕ, List}

-- how many elements there is room for, and those that there are
pub record Listing (T : Type 0) : Type 0 where
  pub room : ℕ
  pub items : List T

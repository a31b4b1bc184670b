-- How the rows lie in the map, and the room that it keeps for those to come.
use Rattle.std.specs.Prelude.{◌≡◌, ℕ, ◌<◌, ◌≤◌, List, None, nat_eq}
use Rattle.std.specs.Ordering.{nat_cmp}
use Rattle.std.specs.FinMap.{FinMap, from_entries}
use Rattle.indexmap.specs.IndexMap.{IndexMap, IsUnique, spare, get}

-- the live rows, each with its message
abbrev pub live_in : {X : Type 0} → List (ℕ × X) → FinMap nat_cmp X
live_in entries = from_entries entries

-- no row is there that was not sent, and there is room for the next so many
pub record HoldsRows {X S : Type 0} (sent reserved : ℕ) (rows : IndexMap ℕ X S) : Type 0 where
  pub unique : IsUnique nat_eq rows
  pub new : (row : ℕ) → sent < row → get nat_eq rows row ≡ None
  pub room : reserved ≤ spare rows

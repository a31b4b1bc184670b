-- What a cell of an arena is. No public clause cites this module.
use Rattle.std.specs.Prelude.{ℕ, Option}

-- free, with the cell that was freed before it and is still free, or live, with the slot beside its value
pub data CellState : Type 0 where
  Free : Option ℕ → CellState
  Live : Option ℕ → CellState

-- The slots by which chains are reached.
use Rattle.std.specs.Prelude.{ℕ, List, Option}

pub record SlotLists : Type 0 where
  -- the first slot of each chain
  pub heads : List (Option ℕ)
  -- the slot of the latest committed version of each chain
  pub latest : List (Option ℕ)

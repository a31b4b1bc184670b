-- Slots and states of cells as numbers of 32 bits. No public clause cites this module.
use Rattle.std.specs.Prelude.{ℕ, zero, suc, ◌+◌, ◌*◌, ◌/◌, ◌%◌, ◌==◌, if◌then◌else◌, Option, Some, None}
use Rattle.version_arena.specs.CellState.{CellState, Free, Live}

-- 0 stands for none, and each other number for the slot below it
abbrev pub slot_of : ℕ → Option ℕ
slot_of zero = None
slot_of (suc slot) = Some slot

abbrev pub number_of : Option ℕ → ℕ
number_of None = zero
number_of (Some slot) = suc slot

-- an odd number stands for a live cell, and an even one for a free one; half of it stands for the slot that the cell names
abbrev pub state_of : ℕ → CellState
state_of code = if code % 2 == 1 then Live (slot_of (code / 2)) else Free (slot_of (code / 2))

abbrev pub code_of : CellState → ℕ
code_of (Free next) = 2 * number_of next
code_of (Live next) = 2 * number_of next + 1

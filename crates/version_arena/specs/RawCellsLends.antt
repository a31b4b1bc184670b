-- What a block of places ends as, where a `&mut` to one of its values is returned. No public clause cites this module.
use Rattle.std.specs.Prelude.{ℕ, Some, slice_set}
use Rattle.std.specs.Borrow.{Lends, Fml, RattleType, MutBor}
use Rattle.core.specs.declared.alloc.Allocator.{Ghosts}
use Rattle.version_arena.specs.declared.raw_cells.RawCells.{RawCells}
use Rattle.version_arena.specs.contracts.raw_cells.RawCells.{the_row}

-- the places with another value in one of them
abbrev pub with_value : {C A : Type 0} → RawCells C A → ℕ → C → RawCells C A
with_value places index value =
    record { at = places.at; by = places.by; held = slice_set places.held index (Some value); alloc = places.alloc }

-- once the borrow r ends, the place has the last value written through r
abbrev pub lends_value :
    (C A : RattleType) → Ghosts A.Denot → MutBor (RawCells C.Denot A.Denot) → ℕ → MutBor C.Denot → Fml
lends_value C A g places index r = Lends (the_row C A g) C places r (with_value places.now index)

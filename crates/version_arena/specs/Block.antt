-- What holds of the parts of a block. No public clause cites this module.
use Rattle.std.specs.Prelude.{◌≡◌, ℕ, length}
use Rattle.version_arena.specs.declared.raw_cells.RawCells.{RawCells}

-- the block has so many places, and goes back to this allocator
pub record IsBlock {C A : Type 0} (places : RawCells C A) (len : ℕ) (alloc : A) : Type 0 where
  pub long : length places.held ≡ len
  pub from : places.alloc ≡ alloc

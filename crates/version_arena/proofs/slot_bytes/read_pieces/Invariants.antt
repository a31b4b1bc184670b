use Rattle.std.proofs.Common.{◌-◌, ◌≡◌, length}
use Rattle.version_arena.specs.Stripes.{bytes_of}
use Rattle.version_arena.proofs.Stripes.{AreRead}
use Rattle.version_arena.proofs.slot_bytes.read_pieces.Given as goal

-- the pieces before this one were copied
abbrev pub invariant-loop-done : goal.invariant-loop-done
invariant-loop-done l = record {
  read : AreRead l.pieces l.cap l.at (bytes_of l.pieces l.cap l.slot) l.out l.done;
  long : length l.out ≡ length l.fn.out;
}

abbrev pub decreases-loop-done : goal.decreases-loop-done
decreases-loop-done l = l.len - l.done

use Rattle.std.proofs.Common.{◌≡◌, ◌≢◌, ℕ, ◌+◌, ◌-◌, ◌*◌, ◌<◌, ◌≤◌}
use Rattle.version_arena.specs.Stripes.{HasStripes, bytes_of}
use Rattle.version_arena.proofs.Stripes.{AreLaid}
use Rattle.version_arena.proofs.slot_bytes.put_pieces.Given as goal

-- the pieces from this one on were written
abbrev pub invariant-loop-left : goal.invariant-loop-left
invariant-loop-left l = record {
  stripes : HasStripes l.pieces l.cap;
  others : (other : ℕ) → other < l.cap → other ≢ l.slot → bytes_of l.pieces l.cap other ≡ bytes_of l.fn.pieces l.cap other;
  few : l.left ≤ 12;
  room : l.left * 64 ≤ l.len + 63;
  laid : AreLaid l.pieces l.cap (12 - l.left) (l.left * l.cap + l.slot) l.source (l.left * 64) l.len;
}

abbrev pub decreases-loop-left : goal.decreases-loop-left
decreases-loop-left l = l.left

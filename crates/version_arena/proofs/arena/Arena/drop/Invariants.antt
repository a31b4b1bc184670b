use Rattle.std.proofs.Common.{◌≡◌, ℕ, ◌<◌, ◌≤◌, None, length, get_or}
use Rattle.version_arena.proofs.arena.Arena.drop.Given as goal

-- the places below the index are empty, and the others are as they were
abbrev pub invariant-loop-index : goal.invariant-loop-index
invariant-loop-index g l = record {
  emptied : (k : ℕ) → k < l.index → get_or l.values k None ≡ None;
  rest : (k : ℕ) → l.index ≤ k → get_or l.values k None ≡ get_or l.initial.values k None;
  long : length l.values ≡ length l.initial.values;
}

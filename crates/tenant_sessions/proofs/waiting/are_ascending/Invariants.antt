use Rattle.std.proofs.Common.{ℕ, ◌<◌}
use Rattle.std.specs.Prelude.{slice_index_or}
use Rattle.tenant_sessions.proofs.waiting.are_ascending.Given as goal

-- each of the partitions so far is below the later ones
abbrev pub invariant-loop-at : goal.invariant-loop-at
invariant-loop-at l = (i j d : ℕ) → i < j → j < l.at → slice_index_or l.partitions i d < slice_index_or l.partitions j d

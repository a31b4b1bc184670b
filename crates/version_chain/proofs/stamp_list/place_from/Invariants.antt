use Rattle.std.proofs.Common.{◌≤◌, length}
use Rattle.version_chain.proofs.StampParts.{NoneFrom}
use Rattle.version_chain.proofs.stamp_list.place_from.Given as goal

-- so far none is below the stamp
abbrev pub invariant-loop-step : goal.invariant-loop-step
invariant-loop-step l = (l.first ≤ length l.list) × NoneFrom l.list l.stamp l.first

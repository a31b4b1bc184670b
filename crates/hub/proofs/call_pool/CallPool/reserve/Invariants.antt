use Rattle.std.proofs.Common.{◌+◌, ◌≤◌}
use Rattle.std.specs.VecDeque.{deque_len}
use Rattle.hub.proofs.call_pool.CallPool.reserve.Given as goal

-- so many boxes more
abbrev pub invariant-loop-made : goal.invariant-loop-made
invariant-loop-made l = deque_len l.fn.self.boxes + l._made ≤ deque_len l.self.boxes

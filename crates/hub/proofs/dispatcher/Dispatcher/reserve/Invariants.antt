use Rattle.std.proofs.Common.{◌≡◌, ◌+◌, ◌≤◌, vec_len}
use Rattle.std.specs.VecDeque.{deque_len, deque_capacity}
use Rattle.hub.proofs.dispatcher.Dispatcher.reserve.Given as goal

-- so many ends more
abbrev pub invariant-loop-made : goal.invariant-loop-made
invariant-loop-made g l =
    (vec_len l.fn.self.spare + l._made ≤ vec_len l.self.spare)
    × (l.most ≤ deque_len l.self.pool.boxes)
    × (l.self.sent ≡ 0)
    × (deque_len l.self.calls ≡ deque_len l.fn.self.calls)
    × (deque_len l.self.calls + l.most ≤ deque_capacity l.self.calls)
    × ((l.self.calls.items ≡ l.fn.self.calls.items) × (l.self.served ≡ l.fn.self.served) × (l.self.queued ≡ l.fn.self.queued))

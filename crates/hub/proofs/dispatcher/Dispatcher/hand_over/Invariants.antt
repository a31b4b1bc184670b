use Rattle.std.proofs.Common.{◌≡◌, ◌≤◌, ◌<◌, ◌+◌, ◌^◌, true, vec_len}
use Rattle.std.specs.VecDeque.{deque_capacity, deque_len}
use Rattle.hub.specs.Staging.{unserved}
use Rattle.hub.proofs.dispatcher.Dispatcher.hand_over.Given as goal

-- where a call was handed back, not all went out; where none was, what is no longer here is with workers
abbrev pub invariant-loop-taken : goal.invariant-loop-taken
invariant-loop-taken g l = record {
  sent : l.self.sent ≡ l.fn.self.sent;
  kept : l.all ≡ true → deque_len l.fn.self.calls + l.fn.self.queued < 2 ^ 64
      → deque_len l.self.calls + l.self.queued ≡ deque_len l.fn.self.calls + l.fn.self.queued;
  handed : l.all ≡ true → deque_len l.fn.self.calls + l.fn.self.queued < 2 ^ 64
      → l.self.queued + unserved l.self.served l.self.calls.items ≡ l.fn.self.queued + unserved l.fn.self.served l.fn.self.calls.items;
  left : unserved l.self.served l.self.calls.items + l._taken ≤ deque_len l.fn.self.calls;
  taken : unserved l.self.served l.self.calls.items + l._taken ≡ unserved l.fn.self.served l.fn.self.calls.items;
  none : unserved l.fn.self.served l.fn.self.calls.items ≡ 0 → l.all ≡ true;
  ends : vec_len l.self.spare + l._taken ≡ vec_len l.fn.self.spare;
  places : deque_capacity l.self.calls ≡ deque_capacity l.fn.self.calls;
  fewer : deque_len l.self.calls ≤ deque_len l.fn.self.calls;
  here : unserved l.fn.self.served l.fn.self.calls.items ≡ 0 → l.self.calls ≡ l.fn.self.calls;
  pool : l.self.pool ≡ l.fn.self.pool;
}

use Rattle.std.proofs.Common.{◌≡◌}
use Rattle.hub.specs.Staging.{unserved}
use Rattle.hub.proofs.dispatcher.Dispatcher.take_left.Given as goal

-- nothing was taken out yet, and those so far were served
abbrev pub invariant-loop-at : goal.invariant-loop-at
invariant-loop-at g l = record {
  sent : l.self.sent ≡ l.fn.self.sent;
  calls : l.self.calls ≡ l.fn.self.calls;
  served : l.self.served ≡ l.fn.self.served;
  queued : l.self.queued ≡ l.fn.self.queued;
  pool : l.self.pool ≡ l.fn.self.pool;
  ends : l.self.spare ≡ l.fn.self.spare;
  passed : unserved l.at l.self.calls.items ≡ unserved l.self.served l.self.calls.items;
}

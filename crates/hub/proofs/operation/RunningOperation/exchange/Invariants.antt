use Rattle.std.proofs.Common.{◌≡◌, ◌≤◌, ◌+◌}
use Rattle.std.specs.Prelude.{IsSome}
use Rattle.tenant_sessions.specs.CallsLeft.{calls_left}
use Rattle.hub.specs.Evidence.{IsUnderWay}
use Rattle.hub.specs.Limits.{max_calls}
use Rattle.hub.specs.Operating.{TakesReplies}
use Rattle.hub.specs.Rooms.{HasRoom}
use Rattle.hub.specs.Sights.{operation_of}
use Rattle.hub.specs.Seats.{EndsSo, spare, told_by}
use Rattle.hub.specs.Taken.{replies_in}
use Rattle.hub.proofs.operation.RunningOperation.exchange.Given as goal

-- there is room for each reply that is still to come, and for the answer
abbrev pub invariant-loop-taken : goal.invariant-loop-taken
invariant-loop-taken g l = record {
  room : max_calls + spare l.self.place ≤ l.self.entries.room + l.taken;
  calls : HasRoom (calls_left l.self.session.running) l.self.dispatcher;
  over : IsSome l.fn.self.fault → (l.self.fault ≡ l.fn.self.fault) × (l.self.entries ≡ l.fn.self.entries);
  few : replies_in l.self.entries.items ≤ replies_in l.fn.self.entries.items + l.taken;
  ends : EndsSo l.fn.self.place l.fn.answer → EndsSo l.self.place l.answer;
  under_way : ∥ IsUnderWay (operation_of l.self.name l.self.mark l.self.seen) l.own l.self.entries.items l.self.session.running (told_by l.self.place l.answer) ∥₁;
  runs : TakesReplies l.takes l.own l.fn.self l.fn.answer l.self l.answer;
}

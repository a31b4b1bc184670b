use Rattle.std.proofs.Common.{◌≡◌, ℕ, ◌+◌, ◌≤◌, List, length, map, take}
use Rattle.plain_store.specs.Run.{call_message}
use Rattle.plain_store.specs.declared.reading.Reading.{Reading}
use Rattle.tenant_sessions.specs.Moves.{moved, ending}
use Rattle.hub.specs.Rooms.{HasRoom}
use Rattle.hub.specs.Staging.{AreStagedBehind}
use Rattle.hub.proofs.operation.RunningOperation.stage_ending.Given as goal

-- so many calls more are staged, the first of them, for which there was room, and nothing else
abbrev pub invariant-loop-nth : goal.invariant-loop-nth
invariant-loop-nth g l = record {
  name : l.self.name ≡ l.fn.self.name;
  session : l.self.session ≡ l.fn.self.session;
  entries : l.self.entries ≡ l.fn.self.entries;
  first : l.self.first ≡ l.fn.self.first;
  place : l.self.place ≡ l.fn.self.place;
  fault : l.self.fault ≡ l.fn.self.fault;
  readings : l.self.readings ≡ l.fn.self.readings;
  seen : l.self.seen ≡ l.fn.self.seen;
  mark : l.self.mark ≡ l.fn.self.mark;
  sent : l.self.dispatcher.sent ≡ l.fn.self.dispatcher.sent + l.nth;
  parts : l.self.dispatcher.parts ≡ l.fn.self.dispatcher.parts;
  staged : (told : List Reading) → AreStagedBehind l.fn.self.name l.fn.self.dispatcher.parts (l.fn.self.first + 1 + l.fn.self.dispatcher.sent)
      (take l.nth (map (call_message l.fn.self.name.client l.ticket) (ending (moved l.taken told)))) l.fn.self.dispatcher.calls.items l.self.dispatcher.calls.items;
  room : (calls : ℕ) → HasRoom (l.nth + calls) l.fn.self.dispatcher → HasRoom calls l.self.dispatcher;
  few : (told : List Reading) → l.nth ≤ length (ending (moved l.taken told));
}

use Rattle.std.proofs.Common.{◌+◌, ◌≤◌, ◌++◌, ℕ, List, map, take}
use Rattle.plain_store.specs.declared.message.Message.{Message}
use Rattle.plain_store.specs.declared.reading.Reading.{Reading}
use Rattle.plain_store.specs.Run.{call_message}
use Rattle.message_table.specs.Content.{StandsFor as TableStandsFor}
use Rattle.tenant_sessions.specs.Sessions.{ending}
use Rattle.tenant_sessions.specs.Moves.{moved}
use Rattle.world.proofs.sending.send_ending.Given as goal

-- so many calls were sent, and there is room for the others
abbrev pub invariant-loop-nth : goal.invariant-loop-nth
invariant-loop-nth l = record {
  rows : l.table.sent ≤ l.fn.table.sent + l.nth;
  room : l.limit ≤ l.table.reserved + l.nth;
  stands : (messages : List Message) (lost : List ℕ) (readings : List Reading) → TableStandsFor l.fn.table messages lost → TableStandsFor l.table (messages ++ take l.nth (map (call_message l.client l.ticket) (ending (moved l.taken readings)))) lost;
}

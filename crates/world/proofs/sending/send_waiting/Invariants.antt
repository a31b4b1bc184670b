use Rattle.std.proofs.Common.{◌+◌, ◌≤◌, ◌++◌, ℕ, List, take}
use Rattle.plain_store.specs.Words.{Setup}
use Rattle.plain_store.specs.declared.message.Message.{Message}
use Rattle.plain_store.specs.History.{History}
use Rattle.message_table.specs.Content.{StandsFor as TableStandsFor}
use Rattle.tenant_sessions.specs.Sessions.{IsRun, waiting, StandsFor as SessionsStandFor}
use Rattle.world.proofs.sending.send_waiting.Given as goal

-- so many calls were sent, and there is room for the others
abbrev pub invariant-loop-nth : goal.invariant-loop-nth
invariant-loop-nth l = record {
  rows : l.table.sent ≤ l.fn.table.sent + l.nth;
  room : l.limit ≤ l.table.reserved + l.nth;
  stands : (setup : Setup) (history : History) (messages : List Message) (lost : List ℕ) → IsRun setup history → SessionsStandFor setup history l.sessions → TableStandsFor l.fn.table messages lost
      → TableStandsFor l.table (messages ++ take l.nth (waiting setup history l.client)) lost;
}

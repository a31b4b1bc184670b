use Rattle.std.proofs.Common.{◌≡◌, ◌++◌, true, false, map, take, cond, sym, ◌∙◌, subst}
use Rattle.stamps.specs.Limits.{max_keys}
use Rattle.plain_store.specs.Run.{call_message}
use Rattle.message_table.specs.Content.{StandsFor as TableStandsFor}
use Rattle.tenant_sessions.specs.Sessions.{waiting, sends_calls, ending}
use Rattle.tenant_sessions.specs.Moves.{moved}
use Rattle.world.proofs.delivering.send_next.Goals as goal

pub returns-then-sends : goal.returns-then-sends
returns-then-sends c setup history messages lost readings is sessions table =
    let move = moved c.args.taken.now readings in
    let yes : sends_calls move ≡ true = sym (c.sends.ensures readings) ∙ c.if-sends.true in
    let rest = map (call_message c.args.client c.args.ticket) (ending move) in
    subst (λ b. TableStandsFor c.send_waiting.new.table (messages ++ take max_keys (cond b (waiting setup history c.args.client) rest)) lost) (sym yes)
    (c.send_waiting.ensures setup history messages lost is sessions table)

pub returns : goal.returns
returns c setup history messages lost readings is sessions table =
    let move = moved c.args.taken.now readings in
    let no : sends_calls move ≡ false = sym (c.sends.ensures readings) ∙ c.if-sends.false in
    let rest = map (call_message c.args.client c.args.ticket) (ending move) in
    subst (λ b. TableStandsFor c.send_ending.new.table (messages ++ take max_keys (cond b (waiting setup history c.args.client) rest)) lost) (sym no)
    (c.send_ending.ensures messages lost readings table)

use Rattle.std.proofs.Common.{Some, ◌≡◌, ◌+◌, ◌∷◌, ◌++◌, List, map, length, take, cond, sym, ap, ◌∙◌, subst, length-append, arith}
use Rattle.std.proofs.lemmas.List.{take_all}
use Rattle.plain_store.specs.declared.step.Act.TheVariants.{Deliver}
use Rattle.plain_store.specs.declared.message.Message.{Message}
use Rattle.plain_store.specs.declared.answer.Rows.{Rows}
use Rattle.plain_store.specs.History.{messages, lost_rows, message_at, running}
use Rattle.std.specs.Prelude.{IsSome}
use Rattle.std.specs.Option.{option_copied}
use Rattle.stamps.specs.Limits.{max_keys}
use Rattle.plain_store.specs.Run.{effect, next_rows, call_message, takes}
use Rattle.tenant_sessions.specs.Sessions.{IsRun, waiting, sends_calls as sends, ending, answer_of}
use Rattle.tenant_sessions.specs.Moves.{moved}
use Rattle.world.specs.Standing.{answered_in_place}
use Rattle.world.proofs.Moments.{run_next, sends_calls, delivers_effect, hands_reply}
use Rattle.world.proofs.Results.{some_of, not_both, same_one}
use Rattle.world.proofs.Asking.{on_err_any, asks_by, taking_asks}
use Rattle.world.proofs.tenant.Tenant.deliver_reply.Goals as goal

pub returns-clause-takes : goal.returns-clause-takes
returns-clause-takes c setup history sent_as is stands free was there =
    let row = c.args.row in
    let message = c.in-Some.message.now in
    let room = c.in_ok-reserve.ensures.stands (messages history) (lost_rows history) stands.table in
    let at : message_at history row ≡ Some message = sym (c.get.ensures.in_history history room) ∙ ap option_copied c.in-Some.is in
    let some : IsSome message.reply = subst (λ (m : Message). IsSome m.reply) (sym (same_one (message_at history row) message sent_as at was)) there in
    let m = effect setup history (Deliver row) in
    let read = c.take_into-taken.new.readings in
    let move = moved c.take_into-taken.result read in
    let taken = c.take_into-taken.ensures setup history row is stands.sessions at some in
    let goes = delivers_effect setup history row message free at in
    let next : IsRun setup (m ∷ history) = subst (λ x. IsRun setup (x ∷ history)) goes (run_next setup history (Deliver row) is tt) in
    let calls : List Message = cond (sends move) (waiting setup (m ∷ history) message.client) (map (call_message message.client message.ticket) (ending move)) in
    let sent = c.send_next.ensures setup (m ∷ history) (messages history) (lost_rows history) read next taken.stands room in
    let front : take max_keys calls ≡ m.sent = ap (take max_keys) (sym taken.sent) ∙ take_all max_keys m.sent taken.few in
    let first : c.sent-sent.result + 1 ≡ length (messages history) + 1 = ap (λ n. n + 1) (c.sent-sent.ensures.value ∙ room.sent) in
    let last : c.sent.result ≡ length (messages history) + length m.sent =
    c.sent.ensures.value ∙ sent.sent ∙ ap (λ ms. length (messages history ++ ms)) front ∙ length-append (messages history) m.sent in
    let given : Rows = record { first = c.sent-sent.result + 1; last = c.sent.result } in
    let rows : given ≡ next_rows history (length m.sent) = (λ i. record { first = first i; last = last i }) in
    sends_calls setup history (Deliver row) c.answer_into.new.answer (record { limits = c.args.self.now.limits; keep = c.args.self.now.keep; table = c.send_next.new.table; sessions = c.take_into-taken.new.self; readings = read }) max_keys calls m tt (omega arith) goes
    (c.answer_into.ensures ∙ ap (answer_of move) rows ∙ sym taken.answer) taken.sent taken.few sent taken.stands stands.keep

-- the row's message is there
pub returns-in_default-clause-takes : goal.returns-in_default-clause-takes
returns-in_default-clause-takes c setup history message is stands free at some =
    let room = c.in_ok-reserve.ensures.stands (messages history) (lost_rows history) stands.table in
    let lost = sym (c.get.ensures.in_history history room) ∙ ap option_copied c.in_default.is in
    absurd (not_both (message_at history c.args.row) message at lost)

pub returns-in_err-reserve-clause-asks : goal.returns-in_err-reserve-clause-asks
returns-in_err-reserve-clause-asks c = on_err_any (answered_in_place c.from_residual.result c.args.answer.now) _
    (λ setup history message free at some.
    let row = c.args.row in
    let reply = some_of message.reply some in
    let at_client = running history message.client in
    asks_by setup history (Deliver row) (takes setup history (Deliver row) message at_client) (hands_reply setup history row message reply.0 free at reply.1) (taking_asks setup history row message at_client))

use Rattle.std.proofs.Common.{◌≡◌, ◌∷◌, length, sym, ap, ◌∙◌, subst, arith}
use Rattle.plain_store.specs.History.{messages, lost_rows}
use Rattle.plain_store.specs.Run.{effect, next_rows}
use Rattle.tenant_sessions.specs.Sessions.{IsRun, waiting}
use Rattle.world.specs.Standing.{answered_in_place}
use Rattle.world.proofs.Moments.{run_next, sends_calls, beginning_keeps}
use Rattle.world.proofs.Asking.{on_err_any, beginning_asks}
use Rattle.world.proofs.tenant.Tenant.begin.Goals as goal

pub returns-clause-takes : goal.returns-clause-takes
returns-clause-takes c setup history act is stands free valid beginning begins =
    let m = effect setup history act in
    let started = c.start.ensures setup history act is stands.sessions free begins in
    let next : IsRun setup (m ∷ history) = subst (λ x. IsRun setup (x ∷ history)) begins.effect (run_next setup history act is valid) in
    let room = c.in_ok-reserve.ensures.stands (messages history) (lost_rows history) stands.table in
    let sent = c.send_waiting.ensures setup (m ∷ history) (messages history) (lost_rows history) next started.0 room in
    let count : c.calls-calls.result ≡ length m.sent = c.calls-calls.ensures.sent setup history act begins in
    let own : m.sent ≡ waiting setup (m ∷ history) c.client-client.result = started.1 ∙ ap (waiting setup (m ∷ history)) (sym c.client-client.ensures) in
    let rows : c.next_rows.result ≡ next_rows history (length m.sent) = c.next_rows.ensures history room ∙ ap (next_rows history) count in
    sends_calls setup history act c.answer_into.new.answer (record { limits = c.args.self.now.limits; keep = c.args.self.now.keep; table = c.send_waiting.new.table; sessions = c.start.new.self; readings = c.args.self.now.readings }) c.calls-calls.result
    (waiting setup (m ∷ history) c.client-client.result) m (beginning_keeps act beginning) c.calls-calls.ensures.few begins.effect (sym (c.answer_into.ensures.told setup history act begins rows)) own (omega (arith, count)) sent started.0 stands.keep

pub returns-in_err-reserve-clause-asks : goal.returns-in_err-reserve-clause-asks
returns-in_err-reserve-clause-asks c = on_err_any (answered_in_place c.from_residual.result c.args.answer.now) _
    (λ setup history act begins.
    beginning_asks setup history act c.args.begin.now begins)

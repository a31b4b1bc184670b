use Rattle.std.proofs.Common.{◌∙◌}
use Rattle.tenant_sessions.proofs.Resending.{call_unknown, call_told}
use Rattle.tenant_sessions.proofs.Written.{read_held, read_none}
use Rattle.tenant_sessions.proofs.sessions.Sessions.call.Goals as goal

pub returns-in_err-session : goal.returns-in_err-session
returns-in_err-session c setup history ran stands =
    let at = read_none c.self.inside.parts c.self.inside.limit c.self.inside.clients c.args.self.now c.self.view_is c.args.client c.get.result c.get-2.result c.get.ensures.value c.get-2.ensures.value c.in_err-session.was in
    c.from_residual.ensures ∙ call_unknown setup history c.args.self.now c.args.client c.args.nth stands at

pub returns : goal.returns
returns c setup history ran stands =
    let at = read_held c.self.inside.parts c.self.inside.limit c.self.inside.clients c.args.self.now c.self.view_is c.args.client c.get.result c.get-2.result c.in_ok-session.session c.get.ensures.value c.get-2.ensures.value c.in_ok-session.was in
    call_told setup history c.args.self.now c.args.client c.args.nth c.in_ok-session.session.now c.call.result ran stands at c.call.ensures.idle c.call.ensures.told

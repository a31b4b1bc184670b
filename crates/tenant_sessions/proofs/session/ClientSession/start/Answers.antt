use Rattle.std.proofs.Common.{ap, ◌∙◌, max}
use Rattle.tenant_sessions.specs.declared.session.ClientSession.{ClientSession}
use Rattle.tenant_sessions.specs.Held.{request_begun}
use Rattle.tenant_sessions.proofs.HasBegun.{has_begun}
use Rattle.tenant_sessions.proofs.session.ClientSession.start.Goals as goal

pub returns-clause-begun : goal.returns-clause-begun
returns-clause-begun c = λ may.
    let drawn = c.draw.ensures in
    has_begun c.args.parts (request_begun c.args.begin.now.kind) c.args.self.now _ c.requires may (ap (λ (s : ClientSession). s.is_open) drawn)
    (ap (λ (s : ClientSession). s.counter) drawn ∙ ap (λ n. max n c.args.self.now.counter) c.counter.ensures.value) (ap (λ (s : ClientSession). s.ticket) drawn)
    (λ setup same. c.begin.ensures setup same may)

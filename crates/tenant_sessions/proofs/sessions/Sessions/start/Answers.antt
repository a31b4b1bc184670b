use Rattle.std.proofs.Common.{ap, sym, ◌∙◌, subst}
use Rattle.stamps.specs.Bounds.{IsParts}
use Rattle.tenant_sessions.specs.declared.session.ClientSession.{ClientSession}
use Rattle.tenant_sessions.specs.Content.{SessionsContent, HoldsSession}
use Rattle.tenant_sessions.specs.Running.{MayBegin}
use Rattle.tenant_sessions.proofs.Started.{started}
use Rattle.tenant_sessions.proofs.Written.{content_of, found_held, written_holds}
use Rattle.tenant_sessions.proofs.sessions.Sessions.start.Goals as goal

pub returns : goal.returns
returns c setup history act ran stands rows begins =
    let found = found_held c.self.inside.parts c.self.inside.limit c.self.inside.clients c.args.self.now c.self.view_is c.args.begin.now.client c.get.result c.get_mut.result c.in-Some.session c.get.ensures.value c.get_mut.ensures.value c.in-Some.is in
    let holds = written_holds c.self.inside.parts c.self.inside.limit c.self.inside.clients c.args.self.now c.self.view_is c.args.begin.now.client c.get.result (c.get_mut.follows.lender c.start.new.self) c.start.new.self c.in-Some.session.now
    c.get.ensures.value found (c.get_mut.follows.holds c.start.new.self) in
    let same = sym (ap (λ (s : SessionsContent). s.parts) c.self.view_is ∙ stands.parts) in
    let fits = subst MayBegin (sym begins.kind) begins.fits in
    let after = (c.start.ensures.begun fits).begins setup same in
    let parts = subst (λ (s : SessionsContent). IsParts s.parts) c.self.view_is c.self.invariant in
    let new : SessionsContent = content_of c.self.inside.parts c.self.inside.limit (c.get_mut.follows.lender c.start.new.self) in
    started setup history act c.args.self.now new c.args.begin.now c.in-Some.session.now ran stands rows parts begins found after.running after.starts (subst (λ (h : ClientSession). HoldsSession c.args.self.now new c.args.begin.now.client h) after.is holds.0) holds.1

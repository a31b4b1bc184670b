use Rattle.std.proofs.Common.{sym, ap, ◌∙◌, subst}
use Rattle.plain_store.specs.declared.refusal.Refusal.TheVariants.{NoSession}
use Rattle.std.specs.Prelude.{Err}
use Rattle.tenant_sessions.specs.Content.{SessionsContent}
use Rattle.tenant_sessions.proofs.Standing.{Stops, stop_unknown, stop_held}
use Rattle.tenant_sessions.proofs.Written.{content_of, found_held, found_none, written_holds}
use Rattle.tenant_sessions.proofs.sessions.Sessions.stop.Goals as goal

pub returns-in_default : goal.returns-in_default
returns-in_default c setup history ran stands =
    let at = found_none c.self.inside.parts c.self.inside.limit c.self.inside.clients c.args.self.now c.self.view_is c.args.client c.get.result c.get_mut.result c.get.ensures.value c.get_mut.ensures.value c.in_default.is in
    let same = ap (content_of c.self.inside.parts c.self.inside.limit) c.get_mut.follows.holds-at-none ∙ c.self.view_is in
    subst (λ (s : SessionsContent). Stops setup history c.args.client (Err NoSession) s) (sym same) (stop_unknown setup history c.args.self.now c.args.client stands at)

pub returns : goal.returns
returns c setup history ran stands =
    let at = found_held c.self.inside.parts c.self.inside.limit c.self.inside.clients c.args.self.now c.self.view_is c.args.client c.get.result c.get_mut.result c.in-Some.session c.get.ensures.value c.get_mut.ensures.value c.in-Some.is in
    let holds = written_holds c.self.inside.parts c.self.inside.limit c.self.inside.clients c.args.self.now c.self.view_is c.args.client c.get.result (c.get_mut.follows.lender c.stop.new.self) c.stop.new.self c.in-Some.session.now
    c.get.ensures.value at (c.get_mut.follows.holds c.stop.new.self) in
    stop_held setup history c.args.self.now _ c.args.client c.in-Some.session.now c.stop.new.self c.stop.result stands at holds.0 holds.1 c.stop.ensures.answer c.stop.ensures.after

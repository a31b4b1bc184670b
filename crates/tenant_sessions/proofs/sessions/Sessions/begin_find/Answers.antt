use Rattle.std.proofs.Common.{◌≡◌, ◌∙◌, sym, subst, refl, ap}
use Rattle.plain_store.specs.declared.step.Act.TheVariants.{Find}
use Rattle.plain_store.specs.History.{Finds}
use Rattle.stamps.specs.Bounds.{IsClient}
use Rattle.tenant_sessions.specs.declared.begin.Begin.{Begin}
use Rattle.tenant_sessions.specs.Content.{SessionsContent}
use Rattle.tenant_sessions.specs.Held.{test_idle}
use Rattle.tenant_sessions.specs.Sessions.{IsBegin, IsBeginOf}
use Rattle.tenant_sessions.proofs.Refusing.{is_passed, refuses_so, refused_unknown}
use Rattle.tenant_sessions.proofs.Begun.{find_tested, find_begins, ok_told}
use Rattle.tenant_sessions.proofs.Written.{read_held, read_none}
use Rattle.tenant_sessions.proofs.sessions.Sessions.begin_find.Goals as goal

pub returns-in-None : goal.returns-in-None
returns-in-None c = record {
  refused = λ setup history ran stands rows.
      refused_unknown setup history c.args.self.now (Find c.args.client c.args.tag) c.args.client _ _ stands
      (read_none c.self.inside.parts c.self.inside.limit c.self.inside.clients c.args.self.now c.self.view_is c.args.client c.get.result c.get-2.result c.get.ensures.value c.get-2.ensures.value c.in-None.is) refl rows;
  ready = λ setup history ran stands rows. tt;
}

pub returns-in-Some : goal.returns-in-Some
returns-in-Some c = record {
  refused = λ setup history ran stands rows.
      let at = read_held c.self.inside.parts c.self.inside.limit c.self.inside.clients c.args.self.now c.self.view_is c.args.client c.get.result c.get-2.result c.in-Some.session c.get.ensures.value c.get-2.ensures.value c.in-Some.is in
      refuses_so setup history (Find c.args.client c.args.tag) (test_idle c.in-Some.session.now) (find_tested setup history c.args.self.now c.args.client c.in-Some.session.now stands rows at c.args.tag) c.begin_find.result c.begin_find.ensures.refused;
  ready = λ setup history ran stands rows.
      let at = read_held c.self.inside.parts c.self.inside.limit c.self.inside.clients c.args.self.now c.self.view_is c.args.client c.get.result c.get-2.result c.in-Some.session c.get.ensures.value c.get-2.ensures.value c.in-Some.is in
      let same = sym (ap (λ (s : SessionsContent). s.parts) c.self.view_is ∙ stands.parts) in
      ok_told (λ (begin : Begin). (test_idle c.in-Some.session.now) ≡ is_passed) (λ (begin : Begin). IsBeginOf begin c.args.client (Finds c.args.tag) c.self.inside.parts)
      (λ (begin : Begin). IsBegin setup history (Find c.args.client c.args.tag) begin)
      (λ begin passed of. find_begins setup history c.args.self.now c.args.client c.in-Some.session.now stands rows at c.args.tag begin c.self.inside.parts c.self.invariant same (subst IsClient c.get.ensures.value c.get.ensures.valid) passed of) c.begin_find.result c.begin_find.ensures.passed c.begin_find.ensures.begun;
}

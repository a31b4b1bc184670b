use Rattle.std.proofs.Common.{◌≡◌, subst, refl, length}
use Rattle.plain_store.specs.declared.step.Act.TheVariants.{Get as GetAll}
use Rattle.plain_store.specs.History.{Gets}
use Rattle.stamps.specs.Bounds.{IsClient}
use Rattle.tenant_sessions.specs.declared.begin.Begin.{Begin}
use Rattle.tenant_sessions.specs.Held.{test_get}
use Rattle.tenant_sessions.specs.Sessions.{IsBegin, IsBeginOf}
use Rattle.tenant_sessions.proofs.Refusing.{is_passed, refuses_so, refused_unknown}
use Rattle.tenant_sessions.proofs.Begun.{get_tested, get_begins, ok_told}
use Rattle.tenant_sessions.proofs.Written.{read_held, read_none}
use Rattle.tenant_sessions.proofs.sessions.Sessions.begin_get.Goals as goal

pub returns-in-None : goal.returns-in-None
returns-in-None c = record {
  refused = λ setup history ran stands rows.
      refused_unknown setup history c.args.self.now (GetAll c.args.client c.args.keys.now) c.args.client _ _ stands
      (read_none c.self.inside.parts c.self.inside.limit c.self.inside.clients c.args.self.now c.self.view_is c.args.client c.get.result c.get-2.result c.get.ensures.value c.get-2.ensures.value c.in-None.is) refl rows;
  ready = λ setup history ran stands rows. tt;
}

pub returns-in-Some : goal.returns-in-Some
returns-in-Some c = record {
  refused = λ setup history ran stands rows.
      let at = read_held c.self.inside.parts c.self.inside.limit c.self.inside.clients c.args.self.now c.self.view_is c.args.client c.get.result c.get-2.result c.in-Some.session c.get.ensures.value c.get-2.ensures.value c.in-Some.is in
      refuses_so setup history (GetAll c.args.client c.args.keys.now) (test_get c.in-Some.session.now c.args.keys.now) (get_tested setup history c.args.self.now c.args.client c.in-Some.session.now stands rows at c.args.keys.now) c.begin_get.result c.begin_get.ensures.refused;
  ready = λ setup history ran stands rows.
      let at = read_held c.self.inside.parts c.self.inside.limit c.self.inside.clients c.args.self.now c.self.view_is c.args.client c.get.result c.get-2.result c.in-Some.session c.get.ensures.value c.get-2.ensures.value c.in-Some.is in
      ok_told (λ (begin : Begin). (test_get c.in-Some.session.now c.args.keys.now) ≡ is_passed) (λ (begin : Begin). IsBeginOf begin c.args.client (Gets c.args.keys.now) (length c.args.keys.now))
      (λ (begin : Begin). IsBegin setup history (GetAll c.args.client c.args.keys.now) begin)
      (λ begin passed of. get_begins setup history c.args.self.now c.args.client c.in-Some.session.now stands rows at c.args.keys.now begin (subst IsClient c.get.ensures.value c.get.ensures.valid) passed of) c.begin_get.result c.begin_get.ensures.passed c.begin_get.ensures.begun;
}

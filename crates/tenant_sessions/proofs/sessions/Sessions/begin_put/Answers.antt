use Rattle.std.proofs.Common.{◌≡◌, subst, refl, ◌+◌, length}
use Rattle.plain_store.specs.declared.step.Act.TheVariants.{Put}
use Rattle.plain_store.specs.History.{Writes}
use Rattle.stamps.specs.Stamp.{stamp}
use Rattle.stamps.specs.Bounds.{IsClient}
use Rattle.tenant_sessions.specs.declared.begin.Begin.{Begin}
use Rattle.tenant_sessions.specs.Held.{test_put}
use Rattle.tenant_sessions.specs.Sessions.{IsBegin, IsBeginOf}
use Rattle.tenant_sessions.proofs.Refusing.{is_passed, refuses_so, refused_unknown}
use Rattle.tenant_sessions.proofs.Begun.{put_tested, put_begins, ok_told}
use Rattle.tenant_sessions.proofs.Written.{read_held, read_none}
use Rattle.tenant_sessions.proofs.sessions.Sessions.begin_put.Goals as goal

pub returns-in-None : goal.returns-in-None
returns-in-None c = record {
  refused = λ setup history ran stands rows.
      refused_unknown setup history c.args.self.now (Put c.args.client c.args.items.now) c.args.client _ _ stands
      (read_none c.self.inside.parts c.self.inside.limit c.self.inside.clients c.args.self.now c.self.view_is c.args.client c.get.result c.get-2.result c.get.ensures.value c.get-2.ensures.value c.in-None.is) refl rows;
  ready = λ setup history ran stands rows. tt;
}

pub returns-in-Some : goal.returns-in-Some
returns-in-Some c = record {
  refused = λ setup history ran stands rows.
      let at = read_held c.self.inside.parts c.self.inside.limit c.self.inside.clients c.args.self.now c.self.view_is c.args.client c.get.result c.get-2.result c.in-Some.session c.get.ensures.value c.get-2.ensures.value c.in-Some.is in
      refuses_so setup history (Put c.args.client c.args.items.now) (test_put c.in-Some.session.now c.args.items.now) (put_tested setup history c.args.self.now c.args.client c.in-Some.session.now stands rows at c.args.items.now) c.begin_put.result c.begin_put.ensures.refused;
  ready = λ setup history ran stands rows.
      let at = read_held c.self.inside.parts c.self.inside.limit c.self.inside.clients c.args.self.now c.self.view_is c.args.client c.get.result c.get-2.result c.in-Some.session c.get.ensures.value c.get-2.ensures.value c.in-Some.is in
      ok_told (λ (begin : Begin). (test_put c.in-Some.session.now c.args.items.now) ≡ is_passed) (λ (begin : Begin). IsBeginOf begin c.args.client (Writes (stamp (c.in-Some.session.now.counter + 1) c.args.client) c.args.items.now) (length c.args.items.now))
      (λ (begin : Begin). IsBegin setup history (Put c.args.client c.args.items.now) begin)
      (λ begin passed of. put_begins setup history c.args.self.now c.args.client c.in-Some.session.now stands rows at c.args.items.now begin (subst IsClient c.get.ensures.value c.get.ensures.valid) passed of) c.begin_put.result c.begin_put.ensures.passed c.begin_put.ensures.begun;
}

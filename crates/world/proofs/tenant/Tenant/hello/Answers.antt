use Rattle.std.proofs.Common.{[], refl, ap, Err, sym, subst, rules}
use Rattle.plain_store.specs.declared.step.Act.TheVariants.{Hello}
use Rattle.plain_store.specs.declared.answer.Answer.TheVariants.{Ready, Refused}
use Rattle.tenant_sessions.specs.Sessions.{StandsFor as SessionsStandFor}
use Rattle.world.specs.Standing.{TenantSteps, answered_in_place}
use Rattle.world.proofs.Results.{match_map}
use Rattle.world.proofs.Moments.{answers}
use Rattle.world.proofs.Asking.{asks_by, on_err_of}
use Rattle.plain_store.specs.History.{moment}
use Rattle.world.proofs.tenant.Tenant.hello.Goals as goal

pub returns-in-Ok : goal.returns-in-Ok
returns-in-Ok c = record {
  takes = λ setup history is stands.
      let told = c.in-Ok.ensures.told setup history is stands.sessions (λ e. cc) in
      answers setup history (Hello c.args.client c.args.base) (Ready c.in-Ok.counter) c.args.self.now c.hello.new.self tt told.0 refl stands told.1;
  asks = search rules;
  limits = search rules;
}

pub returns-in-Err : goal.returns-in-Err
returns-in-Err c = record {
  takes = λ setup history is stands. match_map (answered_in_place c.refused.result c.refused.new.answer) _ _ _ _
      (λ answer refused.
      let told = c.in-Err.ensures.told setup history is stands.sessions (λ e. refused.1 (cc)) in
      subst (λ a. TenantSteps setup history (Hello c.args.client c.args.base) a (record { limits = c.args.self.now.limits; keep = c.args.self.now.keep; table = c.args.self.now.table; sessions = c.hello.new.self; readings = c.args.self.now.readings })) (sym refused.0)
      (answers setup history (Hello c.args.client c.args.base) (Refused c.in-Err.refusal) c.args.self.now c.hello.new.self tt told.0 refl stands told.1))
      (λ error memory. record {
        table = stands.table;
        sessions = subst (SessionsStandFor setup history) (sym (c.in-Err.ensures.no_memory (ap Err memory))) stands.sessions;
        keep = stands.keep;
      })
      c.refused.ensures;
  asks = on_err_of (answered_in_place c.refused.result c.refused.new.answer) _ _ _
      (λ error memory setup history is stands.
      asks_by setup history (Hello c.args.client c.args.base) (moment (Hello c.args.client c.args.base) (Ready c.args.base) []) (c.in-Err.ensures.tested setup history is stands.sessions (ap Err memory))
      (c.in-Err.ensures.known setup history stands.sessions (ap Err memory), λ r. let e = r.1 in cc))
      c.refused.ensures;
  limits = search rules;
}

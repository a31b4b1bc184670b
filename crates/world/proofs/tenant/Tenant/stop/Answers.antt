use Rattle.std.proofs.Common.{refl, rules}
use Rattle.plain_store.specs.declared.step.Act.TheVariants.{Stop}
use Rattle.plain_store.specs.declared.answer.Answer.TheVariants.{Stopped, Refused}
use Rattle.world.proofs.Moments.{answers}
use Rattle.world.proofs.tenant.Tenant.stop.Goals as goal

pub returns-in-Ok : goal.returns-in-Ok
returns-in-Ok c = record {
  takes = λ setup history is stands.
      let told = c.in-Ok.ensures setup history is stands.sessions in
      answers setup history (Stop c.args.client) Stopped c.args.self.now c.stop.new.self tt told.0 refl stands told.1;
  limits = search rules;
}

pub returns-in-Err : goal.returns-in-Err
returns-in-Err c = record {
  takes = λ setup history is stands.
      let told = c.in-Err.ensures setup history is stands.sessions in
      answers setup history (Stop c.args.client) (Refused c.in-Err.refusal) c.args.self.now c.stop.new.self tt told.0 refl stands told.1;
  limits = search rules;
}

use Rattle.std.proofs.Common.{refl, ◌≡◌, true, false, sym, ◌∙◌, rules}
use Rattle.plain_store.specs.declared.step.Act.TheVariants.{Get as GetAll}
use Rattle.plain_store.specs.declared.refusal.Refusal.TheVariants.{RowsUsed}
use Rattle.plain_store.specs.Run.{rows_are_used}
use Rattle.world.specs.Standing.{answered_in_place}
use Rattle.world.proofs.Moments.{no_rows, refuses}
use Rattle.world.proofs.Asking.{on_err_map}
use Rattle.world.proofs.tenant.Tenant.get.Goals as goal

pub returns-then-rows_are_used : goal.returns-then-rows_are_used
returns-then-rows_are_used c = record {
  takes = λ valid setup history is stands.
      let used : rows_are_used history ≡ true = sym (c.rows_are_used.ensures.told history stands.table) ∙ c.if-rows_are_used.true in
      refuses setup history (GetAll c.args.client c.args.keys.now) RowsUsed c.args.self.now tt (no_rows setup history (GetAll c.args.client c.args.keys.now) _ refl used) stands;
  asks = search rules;
  limits = search rules;
}

pub returns-in-Err : goal.returns-in-Err
returns-in-Err c = record {
  takes = λ valid setup history is stands.
      let free : rows_are_used history ≡ false = sym (c.rows_are_used.ensures.told history stands.table) ∙ c.if-rows_are_used.false in
      refuses setup history (GetAll c.args.client c.args.keys.now) c.in-Err.refusal c.args.self.now tt (c.in-Err.ensures.refused setup history is stands.sessions free) stands;
  asks = search rules;
  limits = search rules;
}

pub returns-in-Ok : goal.returns-in-Ok
returns-in-Ok c = record {
  takes = λ valid setup history is stands.
      let free : rows_are_used history ≡ false = sym (c.rows_are_used.ensures.told history stands.table) ∙ c.if-rows_are_used.false in
      c.begin.ensures.takes setup history (GetAll c.args.client c.args.keys.now) is stands free valid tt (c.in-Ok.ensures.ready setup history is stands.sessions free);
  asks = on_err_map (answered_in_place c.begin.result c.begin.new.answer) _ _
      (λ asks setup history is stands.
      let free : rows_are_used history ≡ false = sym (c.rows_are_used.ensures.told history stands.table) ∙ c.if-rows_are_used.false in
      asks setup history (GetAll c.args.client c.args.keys.now) (c.in-Ok.ensures.ready setup history is stands.sessions free))
      c.begin.ensures.asks;
  limits = search rules;
}

use Rattle.std.proofs.Common.{◌≡◌, List, ◌∷◌, [], ◌++◌, Some, length, arith, refl, sym, ap, subst, ◌∙◌, rules}
use Rattle.std.specs.Prelude.{slice_get}
use Rattle.std.proofs.lemmas.Option.{slice_get_read}
use Rattle.partition.specs.declared.journal.Journal.{Journal}
use Rattle.closed_store.specs.Joins.{IsRowJoined}
use Rattle.closed_store.proofs.Together.{pushed}
use Rattle.closed_store.proofs.JoinedRows.{at_next, one_taken, same_fault, no_limits, fit_at, row_more}
use Rattle.closed_store.proofs.join.joining.join_row.Goals as goal

pub returns-in_default : goal.returns-in_default
returns-in_default c = record {
  joined = search rules;
  base = λ is fits.
      let place : length c.loop-journal.yielded ≡ c.len-tenant.result = omega (arith, c.loop-journal.invariant.1.as_many, c.loop-journal.joined.ok, c.len-tenant.ensures) in
      let at = at_next c.args.row.items c.loop-journal.yielded _ _ c.in-Some.journal c.len-tenant.result c.loop-journal.invariant.0 c.in-Some.ensures.steps.0 place in
      no_limits c.args.limits.now c.args.given.now c.args.partition c.args.row.items fits c.len-tenant.result c.in-Some.journal at c.in_default.ensures.lookup.3;
  faults = search rules;
}

pub returns-in_err-whole : goal.returns-in_err-whole
returns-in_err-whole c = record {
  joined = search rules;
  base = λ is fits.
      let limits = c.args.limits.now in
      let tenant = c.len-tenant.result in
      let place : length c.loop-journal.yielded ≡ tenant = omega (arith, c.loop-journal.invariant.1.as_many, c.loop-journal.joined.ok, c.len-tenant.ensures) in
      let at = at_next c.args.row.items c.loop-journal.yielded _ _ c.in-Some.journal tenant c.loop-journal.invariant.0 c.in-Some.ensures.steps.0 place in
      let its = c.in-Some-get.its.now in
      let its_is : slice_get limits tenant ≡ Some its = slice_get_read limits (length limits) tenant its refl c.in-Some-get.ensures.lookup.3.0 c.in-Some-get.ensures.lookup.1 in
      c.in_err-whole.ensures.base (same_fault c.from_residual.result c.in_err-whole.field-0.0 _ c.from_residual.ensures.1 is)
      (fit_at limits c.args.given.now c.args.partition c.args.row.items fits tenant c.in-Some.journal at its its_is);
  faults = search rules;
}

pub loop-journal-preserved : goal.loop-journal-preserved
loop-journal-preserved c =
    let limits = c.args.limits.now in
    let tenant = c.len-tenant.result in
    let joined = c.loop-journal.joined.items in
    let place : length joined ≡ tenant = omega (arith, c.loop-journal.joined.ok, c.len-tenant.ensures) in
    let its = c.in-Some-get.its.now in
    let its_is : slice_get limits tenant ≡ Some its = slice_get_read limits (length limits) tenant its refl c.in-Some-get.ensures.lookup.3.0 c.in-Some-get.ensures.lookup.1 in
    let all_is = pushed joined c.in_ok-whole.whole c.push.result (c.is_err.ensures.value) c.if-is_err.false c.push.ensures.items in (
      one_taken c.args.row.items c.loop-journal.yielded _ _ c.in-Some.journal c.loop-journal.invariant.0 c.in-Some.ensures.steps.0,
      subst (λ (js : List Journal). IsRowJoined limits c.args.given.now c.args.partition (c.loop-journal.yielded ++ c.in-Some.journal ∷ []) js) (sym all_is)
          (row_more limits c.args.given.now c.args.partition c.loop-journal.yielded joined c.in-Some.journal c.in_ok-whole.whole its c.loop-journal.invariant.1
          (ap (slice_get limits) place ∙ its_is) (rw place c.in_ok-whole.ensures.joined)),
    )

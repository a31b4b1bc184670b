use Rattle.std.proofs.Common.{◌≡◌, List, ◌∷◌, [], ◌++◌, length, arith, sym, subst, rules}
use Rattle.std.specs.Global.{Vec}
use Rattle.std.specs.Vec.Iter.{into_iter_items}
use Rattle.partition.specs.declared.journal.Journal.{Journal}
use Rattle.closed_store.proofs.Together.{pushed}
use Rattle.closed_store.proofs.JoinedRows.{RowsJoined, at_next, one_taken, all_taken, same_fault, rows_more, all_joined}
use Rattle.closed_store.proofs.join.joining.join_rows.Goals as goal

pub returns-in_err-whole : goal.returns-in_err-whole
returns-in_err-whole c = record {
  joined = search rules;
  base = λ is fits.
      let place : length c.loop-row.yielded ≡ c.in-Ok.partition = omega (arith, c.loop-row.invariant.1.as_many, c.loop-row.joined.ok, c.len.ensures, c.in-Ok.ensures) in
      let at = at_next c.args.rows.items c.loop-row.yielded _ _ c.in-Some.row c.in-Ok.partition c.loop-row.invariant.0 c.in-Some.ensures.steps.0 place in
      c.in_err-whole.ensures.base (same_fault c.from_residual.result c.in_err-whole.field-0.0 _ c.from_residual.ensures.1 is) (fits.each c.in-Ok.partition c.in-Some.row at);
  faults = search rules;
}

pub loop-row-preserved : goal.loop-row-preserved
loop-row-preserved c =
    let limits = c.args.limits.now in
    let joined = c.loop-row.joined.items in
    let place : length joined ≡ c.in-Ok.partition = omega (arith, c.loop-row.joined.ok, c.len.ensures, c.in-Ok.ensures) in
    let all_is = pushed joined c.in_ok-whole.whole c.push.result (c.is_err.ensures.value) c.if-is_err.false c.push.ensures.items in (
      one_taken c.args.rows.items c.loop-row.yielded _ _ c.in-Some.row c.loop-row.invariant.0 c.in-Some.ensures.steps.0,
      subst (λ (rs : List (Vec Journal)). RowsJoined limits c.args.given.now (c.loop-row.yielded ++ c.in-Some.row ∷ []) rs) (sym all_is)
          (rows_more limits c.args.given.now c.loop-row.yielded joined c.in-Some.row c.in_ok-whole.whole c.loop-row.invariant.1 (rw place c.in_ok-whole.ensures.joined)),
    )

pub returns : goal.returns
returns c = record {
  joined =
      let rows = c.args.rows.items in
      let rest : List (Vec Journal) = into_iter_items c.loop-row.row-iterator in
      let none : length rest ≡ 0 = omega (arith, c.in-None.ensures.steps.0) in
      let all = all_taken rows c.loop-row.yielded rest c.loop-row.invariant.0 none in
      all_joined c.args.limits.now c.args.given.now rows c.loop-row.joined.items c.requires.known
      (subst (λ (rs : List (Vec Journal)). RowsJoined c.args.limits.now c.args.given.now rs c.loop-row.joined.items) (sym all) c.loop-row.invariant.1);
  base = search rules;
  faults = search rules;
}

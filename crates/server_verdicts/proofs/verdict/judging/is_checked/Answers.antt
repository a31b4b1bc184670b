use Rattle.std.proofs.Common.{arith}
use Rattle.std.proofs.lemmas.Option.{slice_get_within}
use Rattle.server_verdicts.specs.Judged.{IsRightIn, IsUncheckedIn, IsWrongIn}
use Rattle.server_verdicts.proofs.EndingLaws.{at_fault, here, one_further, where_false, where_true}
use Rattle.server_verdicts.proofs.verdict.judging.is_checked.Goals as goal

pub returns-then-not-branch-clause-told : goal.returns-then-not-branch-clause-told
returns-then-not-branch-clause-told c = (
  c.loop-row.row-index,
  c.row-item.result,
  here c.args.rows.now.items c.deref-row-items.result.now c.loop-row.row-index c.row-item.result c.deref-row-items.ensures.value c.loop-row-test.true c.row-item.is,
  where_false (IsRightIn c.args.limits.now c.args.tenant c.row-item.result) c.in_ok-is_right_in.field-0 c.if-not-branch.true c.in_ok-is_right_in.ensures.told,
)

pub loop-row-preserved : goal.loop-row-preserved
loop-row-preserved c =
    one_further (IsRightIn c.args.limits.now c.args.tenant) c.args.rows.now.items c.loop-row.row-index c.row-item.result
    (here c.args.rows.now.items c.deref-row-items.result.now c.loop-row.row-index c.row-item.result c.deref-row-items.ensures.value c.loop-row-test.true c.row-item.is)
    c.loop-row.invariant (where_true (IsWrongIn c.args.limits.now c.args.tenant c.row-item.result) c.in_ok-is_right_in.field-0 c.if-not-branch.false c.in_ok-is_right_in.ensures.told)

pub returns-clause-told : goal.returns-clause-told
returns-clause-told c partition row at =
    let within = slice_get_within c.args.rows.now.items partition row at in
    c.loop-row.invariant partition row (omega (arith, within, c.loop-row-test.false, c.deref-row-items.ensures.len)) at

pub returns-in_err-is_right_in-clause-untold : goal.returns-in_err-is_right_in-clause-untold
returns-in_err-is_right_in-clause-untold c =
    at_fault (IsUncheckedIn c.args.rows.now.items c.args.limits.now c.args.tenant) c.from_residual.result (
      c.loop-row.row-index,
      c.row-item.result,
      here c.args.rows.now.items c.deref-row-items.result.now c.loop-row.row-index c.row-item.result c.deref-row-items.ensures.value c.loop-row-test.true c.row-item.is,
      c.in_err-is_right_in.ensures.untold,
    )

use Rattle.std.proofs.Common.{refl, sym, subst}
use Rattle.std.proofs.lemmas.Option.{slice_get_read}
use Rattle.closed_store.proofs.Risen.{not_true}
use Rattle.closed_store.proofs.Below.{RowRises, AllOfRow, each_more, rows_rise, row_rises_of}
use Rattle.closed_store.proofs.join.rising.all_rise.Goals as goal

pub loop-row-preserved : goal.loop-row-preserved
loop-row-preserved c =
    let here = slice_get_read c.args.rows.now _ c.loop-row.row-index c.row-item.result refl c.loop-row-test.true c.row-item.is in
    let rises = subst AllOfRow c.deref.ensures.value (c.in_ok-row_rises.ensures.0 c.if-not-branch.false) in
    each_more RowRises c.args.rows.now c.loop-row.row-index c.row-item.result here rises c.loop-row.invariant

pub returns-then-not-branch : goal.returns-then-not-branch
returns-then-not-branch c =
    let here = slice_get_read c.args.rows.now _ c.loop-row.row-index c.row-item.result refl c.loop-row-test.true c.row-item.is in (
      λ f. absurd (cc),
      λ all. absurd (not_true c.in_ok-row_rises.field-0 c.if-not-branch.true (c.in_ok-row_rises.ensures.1 (subst AllOfRow (sym c.deref.ensures.value) (row_rises_of c.args.rows.now c.loop-row.row-index c.row-item.result here all)))),
    )

pub returns : goal.returns
returns c = (λ _. rows_rise c.args.rows.now c.loop-row.row-index c.loop-row-test.false c.loop-row.invariant, λ _. refl)

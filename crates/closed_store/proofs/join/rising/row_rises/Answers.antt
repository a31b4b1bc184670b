use Rattle.std.proofs.Common.{refl}
use Rattle.std.proofs.lemmas.Option.{slice_get_read}
use Rattle.partition.specs.declared.journal.Journal.{Journal}
use Rattle.closed_store.specs.Joins.{DoRise}
use Rattle.closed_store.proofs.Below.{each_more, each_all}
use Rattle.closed_store.proofs.join.rising.row_rises.Goals as goal

pub loop-journal-preserved : goal.loop-journal-preserved
loop-journal-preserved c =
    let here = slice_get_read c.args.row.now _ c.loop-journal.journal-index c.journal-item.result refl c.loop-journal-test.true c.journal-item.is in
    let rises = c.in_ok-do_rise.ensures.0 c.if-not-branch.false in
    each_more (λ (journal : Journal). DoRise journal.events.items) c.args.row.now c.loop-journal.journal-index c.journal-item.result here rises c.loop-journal.invariant

pub returns : goal.returns
returns c =
    (λ _. each_all (λ (journal : Journal). DoRise journal.events.items) c.args.row.now c.loop-journal.journal-index c.loop-journal-test.false c.loop-journal.invariant, λ _. refl)

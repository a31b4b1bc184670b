use Rattle.std.proofs.Common.{◌≡◌, Option, sym, subst}
use Rattle.partition.specs.declared.journal.Journal.{Journal}
use Rattle.server_verdicts.specs.declared.epochs.checked.Checked.{Checked}
use Rattle.server_verdicts.specs.declared.epochs.ending.Ending.{Ending}
use Rattle.closed_store.specs.Joins.{left_in}
use Rattle.server_verdicts.specs.Judged.{IsEndedAs}
use Rattle.server_verdicts.proofs.EndingLaws.{one_turn, next_taken, fits_more, left_more}
use Rattle.server_verdicts.proofs.verdict.judging.row_of.Goals as goal

pub loop-journal-preserved : goal.loop-journal-preserved
loop-journal-preserved g c =
    let so_far = c.loop-journal.invariant in
    let next = next_taken c.args.known.items _ _ _ c.next-its.result _ _ so_far.2 c.next-its.ensures.items c.next-its.ensures.len c.next-its.ensures.variant.1 in
    let ends = subst (λ (its : Checked). IsEndedAs g.C.JournalChecks.has_ended c.next-its.result its) (sym c.ending_of.ensures.checked) c.checked_of-checked.ensures in (
      one_turn (λ (journal : Journal) (ending : Ending). ending.epoch ≡ left_in journal) c.args.journals.items c.loop-journal.yielded _ _ c.in-Some.journal
          c.loop-journal.row.items c.push.new.self.items c.ending_of.result so_far.0 c.in-Some.ensures.steps.0 c.in_ok-push.ensures.items c.ending_of.ensures.epoch,
      fits_more (λ (known : Option _) (ending : Ending). IsEndedAs g.C.JournalChecks.has_ended known ending.checked) c.args.known.items
          c.loop-journal.row.items c.push.new.self.items c.ending_of.result c.next-its.result so_far.1 next.0 c.in_ok-push.ensures.items ends,
      left_more c.args.known.items c.loop-journal.row.items c.push.new.self.items c.ending_of.result _ _ c.in_ok-push.ensures.items next.1,
    )

use Rattle.std.proofs.Common.{List, Option, subst}
use Rattle.std.specs.Global.{Vec}
use Rattle.partition.specs.declared.journal.Journal.{Journal}
use Rattle.server_verdicts.specs.declared.epochs.ending.Ending.{Ending}
use Rattle.server_verdicts.specs.Judged.{AreEndedIn, AreLeftIn, known_there}
use Rattle.server_verdicts.proofs.EndingLaws.{one_turn, next_taken, fits_more, left_more}
use Rattle.server_verdicts.proofs.verdict.judging.endings_of.Goals as goal

pub loop-row-preserved : goal.loop-row-preserved
loop-row-preserved g c =
    let so_far = c.loop-row.invariant in
    let next = next_taken c.args.known.items _ _ _ c.next-next.result _ _ so_far.2 c.next-next.ensures.items c.next-next.ensures.len c.next-next.ensures.variant.1 in
    let ends = subst (λ (known : List _). AreEndedIn g.C.JournalChecks.has_ended known c.in_ok-row_of.field-0.items) c.known_or_none-its.ensures c.in_ok-row_of.ensures.known in (
      one_turn (λ (own : Vec Journal) (row : Vec Ending). AreLeftIn own.items row.items) c.args.journals.items c.loop-row.yielded _ _ c.in-Some.row
          c.loop-row.rows.items c.push.new.self.items c.in_ok-row_of.field-0 so_far.0 c.in-Some.ensures.steps.0 c.in_ok-push.ensures.items c.in_ok-row_of.ensures.left,
      fits_more (λ (known : Option (Vec _)) (row : Vec Ending). AreEndedIn g.C.JournalChecks.has_ended (known_there known) row.items) c.args.known.items
          c.loop-row.rows.items c.push.new.self.items c.in_ok-row_of.field-0 c.next-next.result so_far.1 next.0 c.in_ok-push.ensures.items ends,
      left_more c.args.known.items c.loop-row.rows.items c.push.new.self.items c.in_ok-row_of.field-0 _ _ c.in_ok-push.ensures.items next.1,
    )

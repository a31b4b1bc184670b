use Rattle.std.proofs.Common.{◌≡◌, ◌++◌, Option, length}
use Rattle.std.specs.Vec.Iter.{into_iter_items, into_iter_len}
use Rattle.partition.specs.declared.journal.Journal.{Journal}
use Rattle.server_verdicts.specs.declared.epochs.ending.Ending.{Ending}
use Rattle.closed_store.specs.Joins.{left_in}
use Rattle.server_verdicts.specs.Judged.{IsEndedAs}
use Rattle.server_verdicts.proofs.EndingLaws.{EachFits, EachHas, HasLeft}
use Rattle.server_verdicts.proofs.verdict.judging.row_of.Given as goal

-- the endings are those of the journals so far, and the iterators have the others
abbrev pub invariant-loop-journal : goal.invariant-loop-journal
invariant-loop-journal g l =
    (EachHas (λ (journal : Journal) (ending : Ending). ending.epoch ≡ left_in journal) l.fn.journals.items l.row.items
    × (length l.row.items ≡ length l.yielded)
    × (l.yielded ++ into_iter_items l.journal-iterator ≡ l.fn.journals.items))
    × EachFits (λ (known : Option _) (ending : Ending). IsEndedAs g.C.JournalChecks.has_ended known ending.checked) l.fn.known.items l.row.items
    × HasLeft l.fn.known.items (length l.row.items) (into_iter_items l.known) (into_iter_len l.known)

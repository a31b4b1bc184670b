use Rattle.std.proofs.Common.{◌≡◌, ◌++◌, ℕ, Option, Some, slice_get, length}
use Rattle.std.specs.Global.{Vec}
use Rattle.std.specs.Vec.Iter.{into_iter_items, into_iter_len}
use Rattle.partition.specs.declared.journal.Journal.{Journal}
use Rattle.server_verdicts.specs.declared.epochs.ending.Ending.{Ending}
use Rattle.server_verdicts.specs.Judged.{AreEndedIn, AreLeftIn, known_there}
use Rattle.server_verdicts.proofs.EndingLaws.{EachFits, HasLeft}
use Rattle.server_verdicts.proofs.verdict.judging.endings_of.Given as goal

-- the rows are those of the partitions so far, and the iterators have the others
abbrev pub invariant-loop-row : goal.invariant-loop-row
invariant-loop-row g l =
    (((partition : ℕ) (row : Vec Ending) → slice_get l.rows.items partition ≡ Some row
    → (own : Vec Journal) × (slice_get l.fn.journals.items partition ≡ Some own) × AreLeftIn own.items row.items)
    × (length l.rows.items ≡ length l.yielded)
    × (l.yielded ++ into_iter_items l.row-iterator ≡ l.fn.journals.items))
    × EachFits (λ (known : Option (Vec _)) (row : Vec Ending). AreEndedIn g.C.JournalChecks.has_ended (known_there known) row.items) l.fn.known.items l.rows.items
    × HasLeft l.fn.known.items (length l.rows.items) (into_iter_items l.known) (into_iter_len l.known)

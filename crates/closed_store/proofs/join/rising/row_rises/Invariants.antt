use Rattle.partition.specs.declared.journal.Journal.{Journal}
use Rattle.closed_store.specs.Joins.{DoRise}
use Rattle.closed_store.proofs.Below.{EachBelow}
use Rattle.closed_store.proofs.join.rising.row_rises.Given as goal

abbrev pub invariant-loop-journal : goal.invariant-loop-journal
invariant-loop-journal l = EachBelow (λ (journal : Journal). DoRise journal.events.items) l.row l.journal-index

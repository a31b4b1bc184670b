use Rattle.std.proofs.Common.{◌≡◌, ◌<◌, ℕ, Some}
use Rattle.partition.specs.declared.journal.Journal.{Journal}
use Rattle.closed_store.specs.Joins.{given_for, journal_at}
use Rattle.load.specs.Loading.{AreAllBelow}
use Rattle.load.proofs.all_there.are_all_in_rows.Given as goal

-- of each journal of the partitions so far all are there
abbrev pub invariant-loop-partition : goal.invariant-loop-partition
invariant-loop-partition l =
    (partition tenant : ℕ) (journal : Journal) → partition < l.partition → journal_at l.rows partition tenant ≡ Some journal → AreAllBelow journal.number (given_for l.given partition tenant)

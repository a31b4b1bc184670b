use Rattle.std.proofs.Common.{◌≡◌, ◌<◌, ℕ, Some, slice_get}
use Rattle.partition.specs.declared.journal.Journal.{Journal}
use Rattle.closed_store.specs.Joins.{given_for}
use Rattle.load.specs.Loading.{AreAllBelow}
use Rattle.load.proofs.all_there.are_all_in_row.Given as goal

-- of each journal so far all are there
abbrev pub invariant-loop-tenant : goal.invariant-loop-tenant
invariant-loop-tenant l =
    (tenant : ℕ) (journal : Journal) → tenant < l.tenant → slice_get l.row tenant ≡ Some journal → AreAllBelow journal.number (given_for l.given l.partition tenant)

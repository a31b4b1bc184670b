-- How much a cell holds.
use Rattle.std.specs.Prelude.{◌≡◌, length}
use Rattle.std.specs.FinMap.{len}
use Rattle.plain_store.specs.Log.{Log, items, kept}
use Rattle.plain_store.specs.Marks.{marked as marked_clients}
use Rattle.prepare_commit.specs.Content.{Content}
use Rattle.prepare_commit.specs.declared.holdings.Holdings.{Holdings}

-- the numbers are those of what the cell holds
pub record IsHeldIn (cell : Content) (holdings : Holdings) : Type 0 where
  pub versions : holdings.versions ≡ length cell.versions
  pub items : holdings.items ≡ length cell.entries
  pub marks : holdings.marks ≡ len cell.marks

-- the numbers are those of what a log leaves: its kept versions, its known items, and the clients that it marks
pub record IsHeldAfter (log : Log) (holdings : Holdings) : Type 0 where
  pub versions : holdings.versions ≡ length (kept log)
  pub items : holdings.items ≡ length (items log)
  pub marks : holdings.marks ≡ length (marked_clients log)

-- What a seat reads, by the puts of the store's history.
use Rattle.std.specs.Prelude.{◌≡◌, ◌⊎◌, ◌≤◌, ℕ, List}
use Rattle.plain_store.specs.Laws.{IsInitial}
use Rattle.plain_store.specs.declared.reading.Reading.{Reading}
use Rattle.plain_store.specs.Words.{◌∈◌}
use Rattle.plain_store.specs.Writing.{keys_written}
use Rattle.history.specs.declared.entry.HistoryEntry.{HistoryEntry}
use Rattle.history.specs.declared.entry.HistoryEntry.TheVariants.{Began}
use Rattle.history.specs.declared.entry.Write.{Write}
use Rattle.history.specs.Legal.{IsDecided}

-- a put of the tenant wrote this tag and value to this key under this stamp, and was decided
pub record WasWritten (seen : List HistoryEntry) (tenant : ℕ) (reading : Reading) : Type 0 where
  pub write : Write
  pub began : Began write ∈ seen
  pub its : (write.tenant ≡ tenant) × (write.stamp ≡ reading.stamp)
  pub among : reading.item ∈ write.items
  pub decided : IsDecided seen tenant reading.stamp

-- What is read was written by decided puts of the history, and of none of these a part is read beside an older version of
-- what else it wrote.
pub record IsReadAtomic (seen : List HistoryEntry) (tenant : ℕ) (readings : List Reading) : Type 0 where
  -- each item is the initial version, or one that a decided put wrote
  pub each : (reading : Reading) → reading ∈ readings → IsInitial reading ⊎ ∥ WasWritten seen tenant reading ∥₁
  -- where the put of one wrote the key of another too, that one is not read older
  pub unfractured : (one other : Reading) (write : Write) → one ∈ readings → other ∈ readings → Began write ∈ seen
      → write.tenant ≡ tenant → write.stamp ≡ one.stamp → other.item.key ∈ keys_written write.items → one.stamp ≤ other.stamp

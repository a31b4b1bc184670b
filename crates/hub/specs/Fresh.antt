-- What a seat reads, by what had been committed as the read began, and what a put commits.
use Rattle.std.specs.Prelude.{◌≡◌, ◌≤◌, ℕ, List, ◌∷◌, ◌++◌}
use mathlib.Core.List.{IsPrefix}
use Rattle.plain_store.specs.declared.reading.Reading.{Reading}
use Rattle.plain_store.specs.Words.{◌∈◌, Item, Key, Stamp}
use Rattle.plain_store.specs.Writing.{keys_written}
use Rattle.history.specs.declared.entry.HistoryEntry.{HistoryEntry}
use Rattle.history.specs.declared.entry.HistoryEntry.TheVariants.{Joined, ReadBegan}
use Rattle.history.specs.Entries.{clock_of, count}
use Rattle.history.specs.Fresh.{IsCommittedIn}
use Rattle.shard.specs.declared.seat_name.SeatName.{SeatName}

-- no key is read below a stamp that was committed at its home by then
abbrev pub IsReadFresh : List HistoryEntry → ℕ → List Reading → Type 0
IsReadFresh before tenant readings =
    (reading : Reading) (stamp : Stamp) → reading ∈ readings → IsCommittedIn before tenant reading.item.key stamp → stamp ≤ reading.stamp

-- The read has an entry in the history, behind all that its seat had seen, under the word of the seat's client. It is fresh by all that
-- stands before that entry, whoever had been told of it.
pub record IsFreshByEntry (old seen : List HistoryEntry) (name : SeatName) (readings : List Reading) : Type 0 where
  pub word : ℕ
  pub joined : Joined (record { word = word; tenant = name.tenant; client = name.client }) ∈ seen
  pub before : List HistoryEntry
  pub after : List HistoryEntry
  pub stands : seen ≡ before ++ ReadBegan word ∷ after
  pub behind : IsPrefix old before
  pub fresh : IsReadFresh before name.tenant readings

-- The read looked at its tenant's clock, and found so many entries there, and all that its seat had seen. It is fresh by all that it found.
pub record IsFreshAt (number : ℕ) (old seen : List HistoryEntry) (name : SeatName) (readings : List Reading) : Type 0 where
  pub found : List HistoryEntry
  pub behind : IsPrefix old found
  pub number_is : number ≡ count (clock_of name.tenant) found
  pub fresh : IsFreshByEntry found seen name readings

-- what a put wrote to each of its keys, under this stamp, is committed at the home of the key
abbrev pub AreCommittedIn : List HistoryEntry → ℕ → List Item → Stamp → Type 0
AreCommittedIn seen tenant items own = (key : Key) → key ∈ keys_written items → ∥ IsCommittedIn seen tenant key own ∥₁

-- none of the keys that the put wrote is read below its stamp
abbrev pub IsNotMissed : List Item → Stamp → List Reading → Type 0
IsNotMissed items own told = (reading : Reading) → reading ∈ told → reading.item.key ∈ keys_written items → own ≤ reading.stamp

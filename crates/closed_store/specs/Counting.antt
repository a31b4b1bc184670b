-- What the counts of events become once epochs are put before the rest of journals.
use Rattle.std.specs.Prelude.{◌≡◌, ◌+◌, ◌-◌, ◌^◌, ℕ, Bool, List, length, min, nat_eq, Some, slice_get, sum_by, count_by}
use Rattle.std.specs.List.{filter}
use Rattle.partition.specs.Accounts.{is_of_seat, is_of_collector}
use Rattle.partition.specs.Events.{Event}
use Rattle.partition.specs.declared.book.Counts.{Counts}
use Rattle.partition.specs.declared.journal.Epoch.{Epoch}

-- how many events that pass the test are in the epochs that were given for a partition
abbrev pub events_given : (Event → Bool) → List (ℕ × ℕ × Epoch) → ℕ → ℕ
events_given test given partition =
    sum_by (λ (g : ℕ × ℕ × Epoch). count_by test g.2.events.items)
    (filter (λ (g : ℕ × ℕ × Epoch). nat_eq g.0 partition) given)

-- the sum of both, or the greatest number that is counted
abbrev pub counted_with : ℕ → ℕ → ℕ
counted_with old more = min (old + more) (2 ^ 128 - 1)

-- each count of a partition is the old one with the events in the epochs given for it
pub record IsCountedWith (given : List (ℕ × ℕ × Epoch)) (partition : ℕ) (old new : Counts) : Type 0 where
  pub of_seats : new.of_seats ≡ counted_with old.of_seats (events_given is_of_seat given partition)
  pub of_collector : new.of_collector ≡ counted_with old.of_collector (events_given is_of_collector given partition)

-- the same for each partition that has counts
pub record AreCounted (given : List (ℕ × ℕ × Epoch)) (old new : List Counts) : Type 0 where
  pub each : (partition : ℕ) (count : Counts) → slice_get old partition ≡ Some count
      → (counted : Counts) × (slice_get new partition ≡ Some counted) × IsCountedWith given partition count counted
  pub as_many : length new ≡ length old

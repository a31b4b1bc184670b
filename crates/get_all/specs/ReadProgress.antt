-- The keys of a read, what was shown of them, and what follows from it.
use Rattle.std.specs.Prelude.{◌≢◌, ℕ, suc, List, [], ◌∷◌, AllPairs, Bool, false, ◌&&◌, ◌||◌, ◌==◌, nat_lt, cond, not, map, filter, Option, Some, None}
use Rattle.std.specs.Prelude.{is_some, bytes_eq}
use Rattle.std.specs.List.{list_all}
use Rattle.stamps.specs.Record.{Record}
use Rattle.stamps.specs.Stamp.{greatest_by}
use Rattle.stamps.specs.WriteSet.{keys_eq}
use Rattle.plain_store.specs.declared.reading.Reading.{Reading}
use Rattle.plain_store.specs.Words.{Key, Stamp}
use Rattle.plain_store.specs.Rounds.{some_or, flat, stamp_for, stamp_seen, reading_of}
use Rattle.get_all.specs.declared.late.Late.{Late}
use Rattle.get_all.specs.declared.read_progress.KeyProgress.{KeyProgress}

-- a key of which nothing was shown
abbrev pub slot_for : Key → KeyProgress
slot_for key = record { key = key; first = None; second = None }

-- no two slots have one key
abbrev pub AreApart : List KeyProgress → Type 0
AreApart = AllPairs (λ (j k : KeyProgress). j.key ≢ k.key)

-- once round one showed this of a key; the first counts
abbrev pub with_first : Key → Option Record → KeyProgress → KeyProgress
with_first key shown slot = record {
  key = slot.key;
  first = some_or slot.first (cond (bytes_eq slot.key key) (Some shown) None);
  second = slot.second;
}

-- once round two showed this of a key; the first counts
abbrev pub with_second : Key → Record → KeyProgress → KeyProgress
with_second key version slot = record {
  key = slot.key;
  first = slot.first;
  second = some_or slot.second (cond (bytes_eq slot.key key) (Some version) None);
}

abbrev pub has_first : KeyProgress → Bool
has_first slot = is_some slot.first

-- of how many keys round one showed nothing
abbrev pub count_unshown : List KeyProgress → ℕ
count_unshown [] = 0
count_unshown (slot ∷ slots) = cond (is_some slot.first) (count_unshown slots) (suc (count_unshown slots))

abbrev pub awaits_first : Key → KeyProgress → Bool
awaits_first key slot = bytes_eq slot.key key && not (is_some slot.first)

-- whether round one showed a record of the stamp with this write set
abbrev pub first_shows : Stamp → List Key → Option (Option Record) → Bool
first_shows stamp writes None = false
first_shows stamp writes (Some None) = false
first_shows stamp writes (Some (Some version)) = (version.stamp == stamp) && keys_eq version.writes writes

-- the greatest stamp shown in round one whose transaction wrote the key
abbrev pub needed_by : List KeyProgress → Key → Stamp
needed_by slots key = greatest_by (λ slot. stamp_for key slot.first) slots

abbrev pub is_late_by : List KeyProgress → KeyProgress → Bool
is_late_by slots slot = nat_lt (stamp_seen slot.first) (needed_by slots slot.key)

abbrev pub awaits_second : List KeyProgress → Key → KeyProgress → Bool
awaits_second slots key slot = bytes_eq slot.key key && is_late_by slots slot && not (is_some slot.second)

-- a slot whose key is not late needs no second answer
abbrev pub is_answered_by : List KeyProgress → KeyProgress → Bool
is_answered_by slots slot = not (is_late_by slots slot) || is_some slot.second

abbrev pub late_of : List KeyProgress → KeyProgress → Late
late_of slots slot = record { key = slot.key; stamp = needed_by slots slot.key }

abbrev pub late_by : List KeyProgress → List Late
late_by slots = map (late_of slots) (filter (is_late_by slots) slots)

abbrev pub version_by : List KeyProgress → KeyProgress → Option Record
version_by slots slot = cond (is_late_by slots slot) slot.second (flat slot.first)

abbrev pub readings_by : List KeyProgress → List Reading
readings_by slots = map (λ slot. reading_of slot.key (version_by slots slot)) slots

-- whether both rounds are complete
abbrev pub is_whole : List KeyProgress → Bool
is_whole slots = list_all has_first slots && list_all (is_answered_by slots) slots

-- The items of a write, and what was answered of them.
use Rattle.std.specs.Prelude.{◌≡◌, ◌≢◌, AllPairs, ℕ, Bool, false, ◌&&◌, ◌||◌, ◌==◌, not, bytes_eq, List, [], ◌∷◌, map, cond, suc}
use Rattle.std.specs.List.{list_any, list_all}
use Rattle.stamps.specs.Key.{home_of}
use Rattle.plain_store.specs.Words.{Key}
use Rattle.put_all.specs.declared.write_progress.ItemProgress.{ItemProgress}
use Rattle.put_all.specs.declared.write_progress.Marked.{Marked}
use Rattle.put_all.specs.declared.write_progress.CommitMarked.{CommitMarked}

-- an item of which nothing was answered
abbrev pub place_for : ℕ → Key → ItemProgress
place_for parts key = record { key = key; home = home_of key parts; is_prepared = false; is_committed = false }

-- no two items have one key
abbrev pub AreApart : List ItemProgress → Type 0
AreApart = AllPairs (λ (j k : ItemProgress). j.key ≢ k.key)

-- of how many no PREPARE was answered Prepared
abbrev pub count_awaited : List ItemProgress → ℕ
count_awaited [] = 0
count_awaited (place ∷ places) = cond place.is_prepared (count_awaited places) (suc (count_awaited places))

-- once this key was answered Prepared
abbrev pub with_prepared : Key → ItemProgress → ItemProgress
with_prepared key place = record {
  key = place.key;
  home = place.home;
  is_prepared = place.is_prepared || bytes_eq place.key key;
  is_committed = place.is_committed;
}

-- once the COMMIT at this partition was answered
abbrev pub with_committed : ℕ → ItemProgress → ItemProgress
with_committed partition place = record {
  key = place.key;
  home = place.home;
  is_prepared = place.is_prepared;
  is_committed = place.is_committed || place.home == partition;
}

abbrev pub is_at : ℕ → ItemProgress → Bool
is_at partition place = place.home == partition

abbrev pub awaits_prepared : Key → ItemProgress → Bool
awaits_prepared key place = bytes_eq place.key key && not place.is_prepared

abbrev pub awaits_committed : ℕ → ItemProgress → Bool
awaits_committed partition place = place.home == partition && not place.is_committed

-- each item knows that the key was answered Prepared; it is known whether one waited for that, and whether each is prepared
pub record MarksPrepared (key : Key) (old new : List ItemProgress) (marked : Marked) : Type 0 where
  pub places : new ≡ map (with_prepared key) old
  pub awaited : marked.was_awaited ≡ list_any (awaits_prepared key) old
  pub all : marked.are_prepared ≡ list_all (λ (place : ItemProgress). place.is_prepared) new

-- each item knows that the COMMIT at the partition was answered; it is known whether one waited for that, and whether that of each was
pub record MarksCommitted (partition : ℕ) (old new : List ItemProgress) (marked : CommitMarked) : Type 0 where
  pub places : new ≡ map (with_committed partition) old
  pub awaited : marked.was_awaited ≡ list_any (awaits_committed partition) old
  pub all : marked.are_committed ≡ list_all (λ (place : ItemProgress). place.is_committed) new

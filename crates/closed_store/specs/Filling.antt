-- What transcripts become once the entries that were drained before are put before their own.
use Rattle.std.specs.Prelude.{◌≡◌, ◌<◌, ◌++◌, ℕ, Bool, false, List, [], length, nat_eq, cond, slice_get, All}
use Rattle.std.specs.Prelude.{Option, Some, None, MatchOption}
use Rattle.std.specs.List.{filter, flat_map}
use Rattle.indexmap.specs.IndexMap.{IndexMap, get}
use Rattle.entry_list.specs.declared.kinds.Entry.{Entry}
use Rattle.entry_list.specs.PackedEntries.{EntriesView}
use Rattle.closed_store.specs.declared.transcript.Transcript.{Transcript}

-- the entries that were drained of a seat: its lists, in the order given
abbrev pub drained_of : List (ℕ × EntriesView) → ℕ → List Entry
drained_of drained seat =
    flat_map (λ (d : ℕ × EntriesView). d.1.items) (filter (λ (d : ℕ × EntriesView). nat_eq d.0 seat) drained)

-- no transcript before this place is of the seat
abbrev pub NoneBefore : List Transcript → ℕ → ℕ → Type 0
NoneBefore transcripts seat place =
    (earlier : ℕ) (transcript : Transcript) → earlier < place → slice_get transcripts earlier ≡ Some transcript
    → transcript.seat ≡ seat → ⊥

-- it is of the same session, and begins with these entries
pub record IsFilled (before : List Entry) (old new : Transcript) : Type 0 where
  pub entries : new.entries.items ≡ before ++ old.entries.items
  pub tenant : new.tenant ≡ old.tenant
  pub client : new.client ≡ old.client
  pub turn : new.turn ≡ old.turn
  pub seat : new.seat ≡ old.seat
  pub base : new.base ≡ old.base
  pub counter : new.counter ≡ old.counter

-- what was drained of a seat stands before the entries of its first transcript, and nothing before those of a later one
pub record AreFilled (drained : List (ℕ × EntriesView)) (old new : List Transcript) : Type 0 where
  pub first : (place : ℕ) (transcript : Transcript) → slice_get old place ≡ Some transcript
      → NoneBefore old transcript.seat place
      → (filled : Transcript) × (slice_get new place ≡ Some filled)
      × IsFilled (drained_of drained transcript.seat) transcript filled
  pub later : (place : ℕ) (transcript : Transcript) → slice_get old place ≡ Some transcript
      → (NoneBefore old transcript.seat place → ⊥)
      → (filled : Transcript) × (slice_get new place ≡ Some filled) × IsFilled [] transcript filled
  pub as_many : length new ≡ length old

-- ---- while they are put together

-- the place of a seat's first transcript
pub record IsFirstPlace (transcripts : List Transcript) (seat place : ℕ) : Type 0 where
  pub transcript : Transcript
  pub there : slice_get transcripts place ≡ Some transcript
  pub its : transcript.seat ≡ seat
  pub first : NoneBefore transcripts seat place

-- the place of each seat's first transcript, where it is one of the first so many
abbrev pub AreFirstPlaces : {S : Type 0} → List Transcript → ℕ → IndexMap ℕ ℕ S → Type 0
AreFirstPlaces transcripts count places =
    (seat : ℕ)
    → MatchOption (get nat_eq places seat) (NoneBefore transcripts seat count) (IsFirstPlace transcripts seat)

-- whether the place that was found is this one
abbrev pub is_found_at : ℕ → Option ℕ → Bool
is_found_at place None = false
is_found_at place (Some other) = nat_eq other place

-- the lists of the seats that have this place, in the order given
abbrev pub drained_to : {S : Type 0} → IndexMap ℕ ℕ S → List (ℕ × EntriesView) → ℕ → List Entry
drained_to places drained place =
    flat_map (λ (d : ℕ × EntriesView). d.1.items)
    (filter (λ (d : ℕ × EntriesView). is_found_at place (get nat_eq places d.0)) drained)

-- for each of so many places what was drained of the seats that have it
pub record AreGathered
    {S : Type 0} (places : IndexMap ℕ ℕ S) (drained : List (ℕ × EntriesView)) (count : ℕ) (lists : List EntriesView)
    : Type 0 where
  pub each : (place : ℕ) (list : EntriesView) → slice_get lists place ≡ Some list
      → list.items ≡ drained_to places drained place
  pub as_many : length lists ≡ count

-- these entries were put behind the list at the place, if there is one
pub record IsAppended (old new : List EntriesView) (place : ℕ) (more : List Entry) : Type 0 where
  pub each : (other : ℕ) (list : EntriesView) → slice_get new other ≡ Some list
      → (before : EntriesView) × (slice_get old other ≡ Some before)
      × (list.items ≡ before.items ++ cond (nat_eq place other) more [])
  pub as_many : length new ≡ length old

-- each list stands before the entries of the transcript at its place
pub record ArePut (lists : List EntriesView) (old new : List Transcript) : Type 0 where
  pub each : (place : ℕ) (transcript : Transcript) (list : EntriesView)
      → slice_get old place ≡ Some transcript → slice_get lists place ≡ Some list
      → (filled : Transcript) × (slice_get new place ≡ Some filled) × IsFilled list.items transcript filled
  pub as_many : length new ≡ length old

-- lists of no entries
abbrev pub AreEmpty : List EntriesView → Type 0
AreEmpty lists = All (λ (list : EntriesView). list.items ≡ []) lists

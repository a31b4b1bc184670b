-- The rule between a history and the words that count its entries, and what the steps tell.
use Rattle.std.specs.Prelude.{ℕ, ◌≡◌, ◌≢◌, ◌==◌, ◌+◌, ◌^◌, ◌<◌, ◌≤◌, ◌⊎◌, Bool, true, false, List, [], ◌∷◌, ◌++◌, IsTrue, MatchBool, length}
use mathlib.Core.List.{IsPrefix}
use Rattle.logbook.specs.Pages.{Cell, Step, View, Book, Named, cell, nib, may_make}
use Rattle.plain_store.specs.Words.{◌∈◌}
use Rattle.history.specs.declared.entry.HistoryEntry.{HistoryEntry}
use Rattle.history.specs.declared.entry.HistoryEntry.TheVariants.{Opened, Joined, Arrived}
use Rattle.stamps.specs.Limits.{max_parts, max_tenants}
use Rattle.history.specs.Entries.{but_last, clock_of, own, count}
use Rattle.history.specs.Legal.{IsLegal, first_client}

-- the words of the register and of the partitions are there from the start, a client's once it has an entry
abbrev pub IsHome : ℕ → List HistoryEntry → Type 0
IsHome k log = (k < first_client) ⊎ (0 < count k log)

-- the word is the clock of the tenant
abbrev pub IsClockOf : ℕ → ℕ → Type 0
IsClockOf k tenant = (k ≡ clock_of tenant) × (tenant < max_tenants)

-- a word is the number of its entries; there is one for each client that joined, and the history is legal
pub record IsRuleKept (cells : List Cell) (log : List HistoryEntry) : Type 0 where
  pub size : length cells ≡ first_client + count 0 log
  pub words : (k : ℕ) → IsHome k log → (k < length cells) × (cell cells k ≡ (count k log, true))
  pub legal : IsLegal log

abbrev pub word_of : ℕ → Book → Named
word_of k b = record { tracked = true; key = k; book = b }

-- whether it is a history of a store that was just opened
abbrev pub is_opening : List HistoryEntry → Bool
is_opening [] = false
is_opening (Opened setting ∷ []) = true
is_opening (e ∷ log) = false

-- the entry was added where the word had so many
abbrev pub IsAdded : ℕ → ℕ → HistoryEntry → List HistoryEntry → List HistoryEntry → Type 0
IsAdded k entries e seen now =
    (between : List HistoryEntry) × (now ≡ (seen ++ between) ++ e ∷ []) × (count k (seen ++ between) ≡ entries) × IsLegal now

-- the word has other entries than so many
abbrev pub IsOvertaken : ℕ → ℕ → List HistoryEntry → Type 0
IsOvertaken k entries now = (count k now ≢ entries) × IsLegal now

-- The word has just so many entries, by what was seen, and fewer than a word can have.
pub record TakesEntry (k entries : ℕ) (seen : List HistoryEntry) : Type 0 where
  pub room : entries < 2 ^ 62
  pub counted : count k seen ≡ entries

-- the word that is had is this one, a client's that has joined: it has an entry
abbrev pub IsClientWord : ℕ → ℕ → ℕ → Type 0
IsClientWord k word entries = (k ≡ word) × (max_parts < word) × (0 < entries)

-- Who saw this sees as much and more now: the entry was added where the word had so many, or the word has other entries.
pub record AddsEntry (did : Bool) (k entries : ℕ) (e : HistoryEntry) (old new : List HistoryEntry) : Type 0 where
  pub later : IsPrefix old new
  pub added : MatchBool did (IsAdded k entries e old new) (IsOvertaken k entries new)

-- All that the evidence has is seen, and where an entry was added it stands before that entry.
pub record HasEvidence (did : Bool) (known seen : List HistoryEntry) : Type 0 where
  pub evidence : IsPrefix known seen
  pub behind : IsTrue did → IsPrefix known (but_last seen)

-- A client has come, as the so many-th (from 0) of all: under the next word, whose one entry is its arrival.
pub record HasNewClient (word nth tenant client : ℕ) (seen : List HistoryEntry) : Type 0 where
  pub key : word ≡ nth + first_client
  pub joined : Joined (record { word = word; tenant = tenant; client = client }) ∈ seen
  pub alone : own word seen ≡ Arrived word ∷ []
  pub counted : count 0 seen ≡ nth + 1

-- The word takes no entry behind what was seen: it has as many as a word can have, or what was found of the history has more of it.
abbrev pub TakesNoEntry : ℕ → (seen found : List HistoryEntry) → Type 0
TakesNoEntry k seen found = (2 ^ 62 ≤ count k seen) ⊎ (IsPrefix seen found × (count k seen < count k found))

abbrev pub Looks : Step HistoryEntry → View HistoryEntry ℕ → ℕ → View HistoryEntry ℕ → Type 0
Looks s v found w = (count s.key w.0 ≡ found) × IsLegal w.0

abbrev pub Adds : Step HistoryEntry → View HistoryEntry ℕ → ℕ → View HistoryEntry ℕ → Type 0
Adds s v found w = MatchBool (found == s.old) (IsAdded s.key s.old s.ask v.0 w.0) (IsOvertaken s.key s.old w.0)

-- the word was raised to the new number; or it has other entries
abbrev pub Raises : Step HistoryEntry → View HistoryEntry ℕ → ℕ → View HistoryEntry ℕ → Type 0
Raises s v found w = MatchBool (found == s.old) ((count s.key w.0 ≡ s.new) × IsLegal w.0) (IsOvertaken s.key s.old w.0)

-- a client joined, and the right to make its word is had
abbrev pub Joins : Step HistoryEntry → View HistoryEntry ℕ → ℕ → View HistoryEntry ℕ → Type 0
Joins s v found w =
    MatchBool (found == s.old) ((w.1.0 ≡ nib may_make (first_client + s.old) 0) × (s.ask ∈ w.0) × IsLegal w.0) (IsLegal w.0)

-- the word of an arrival
abbrev pub arrived : HistoryEntry → ℕ
arrived (Arrived word) = word
-- no other entry is one
arrived e = 0

-- the word that was made counts, and its one entry is this one
abbrev pub Arrives : Step HistoryEntry → View HistoryEntry ℕ → ℕ → View HistoryEntry ℕ → Type 0
Arrives s v found w = (own (arrived s.ask) w.0 ≡ s.ask ∷ []) × (count 0 w.0 ≡ found) × IsLegal w.0

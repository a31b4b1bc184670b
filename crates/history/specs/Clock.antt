-- What the clock of a tenant promises.
use Rattle.std.specs.Prelude.{◌≡◌, ◌⊎◌, ◌≤◌, ◌<◌, ◌+◌, ◌^◌, ℕ, List, ◌∷◌, ◌++◌}
use mathlib.Core.List.{IsPrefix}
use Rattle.plain_store.specs.Words.{◌∈◌}
use Rattle.history.specs.declared.entry.HistoryEntry.{HistoryEntry}
use Rattle.history.specs.declared.entry.HistoryEntry.TheVariants.{Drew, Passed}
use Rattle.history.specs.declared.entry.Draw.{Draw}
use Rattle.history.specs.Entries.{clock_of, count}

-- whatever was drawn of the clock before is below
abbrev pub IsAbove : List HistoryEntry → Draw → Type 0
IsAbove before drawn = (other : Draw) → Drew other ∈ before → other.tenant ≡ drawn.tenant → other.counter < drawn.counter

-- each draw is above what stands before it
abbrev pub DrawsRise : List HistoryEntry → Type 0
DrawsRise log = (before after : List HistoryEntry) (drawn : Draw) → log ≡ before ++ Drew drawn ∷ after → IsAbove before drawn

-- The draw stands behind all that the evidence has, and above all draws of the clock that stand before it.
pub record IsDrawnBehind (evidence seen : List HistoryEntry) (drawn : Draw) : Type 0 where
  pub before : List HistoryEntry
  pub after : List HistoryEntry
  pub stands : seen ≡ before ++ Drew drawn ∷ after
  pub behind : IsPrefix evidence before
  pub above : IsAbove before drawn

-- A report to the clock is its entry of this number, behind all that the evidence has.
pub record IsToldAt (evidence seen : List HistoryEntry) (tenant place : ℕ) : Type 0 where
  pub before : List HistoryEntry
  pub after : List HistoryEntry
  pub stands : seen ≡ before ++ Passed tenant ∷ after
  pub behind : IsPrefix evidence before
  pub place_is : place ≡ count (clock_of tenant) before + 1

-- the word went on 2^32 times meanwhile, or has all entries that a word can have
abbrev pub IsOverrun : ℕ → List HistoryEntry → List HistoryEntry → Type 0
IsOverrun k old new = (count k old + 2 ^ 32 ≤ count k new) ⊎ (2 ^ 62 ≤ count k new)

-- who has seen as many entries of the clock as it had after a report has seen what the evidence had
abbrev pub SeesTold : List HistoryEntry → Type 0
SeesTold log = (evidence told seen : List HistoryEntry) (tenant place : ℕ) → IsPrefix told log → IsPrefix seen log
    → IsToldAt evidence told tenant place → place ≤ count (clock_of tenant) seen → IsPrefix evidence seen

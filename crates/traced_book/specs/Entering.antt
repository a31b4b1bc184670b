-- What is seen of the history once a call was entered.
use Rattle.std.specs.Prelude.{ℕ, ◌<◌, ◌^◌, List}
use mathlib.Core.List.{IsPrefix}
use Rattle.history.specs.declared.entry.CallToServe.{CallToServe}
use Rattle.history.specs.declared.entry.HistoryEntry.{HistoryEntry}
use Rattle.history.specs.Asking.{served_by}
use Rattle.history.specs.Entries.{but_last}
use Rattle.history.specs.Rules.{IsAdded}

-- the call was added behind all that was seen, where its word had so many entries, and what the evidence has stands before it
pub record HasEntered (k entries : ℕ) (asked : CallToServe) (mine evidence now : List HistoryEntry) : Type 0 where
  pub few : entries < 2 ^ 62
  pub added : IsAdded k entries (served_by asked) mine now
  pub shown : IsPrefix evidence now
  pub behind : IsPrefix evidence (but_last now)

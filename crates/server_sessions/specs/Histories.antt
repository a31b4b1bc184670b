-- What sessions left, and a store that was closed, have of the store's history.
use Rattle.std.specs.Prelude.{◌≡◌, ℕ, List, [], Option, None, Some, All}
use Rattle.closed_store.specs.declared.closed.Closed.{Closed}
use Rattle.closed_store.specs.declared.transcript.Transcript.{Transcript}
use Rattle.history.specs.declared.entry.HistoryEntry.{HistoryEntry}
use Rattle.history.specs.Legal.{IsLegal}
use Rattle.hub.specs.Hubs.{AllTraced}
use Rattle.hub.specs.Replies.{AreServed}
use Rattle.hub.specs.Sights.{SeatSight}

-- whose transcript it is, and what was seen of the history
abbrev pub sight_in : List HistoryEntry → Transcript → SeatSight
sight_in seen transcript = record { tenant = transcript.tenant; seat = transcript.seat; seen = seen }

-- each reply in the transcript was given to a call of its seat, at its place in this history
abbrev pub IsGivenIn : List HistoryEntry → Transcript → Type 0
IsGivenIn seen transcript = (last : ℕ) × AreServed (sight_in seen transcript) 0 last [] transcript.entries.items

-- so of each of these; where nothing was seen there is none
abbrev pub AreGivenIn : Option (List HistoryEntry) → List Transcript → Type 0
AreGivenIn None transcripts = transcripts ≡ []
AreGivenIn (Some seen) transcripts = All (IsGivenIn seen) transcripts

-- A store that was closed is that of this history: where there are journals of a partition, all calls that the history has of it are
-- in them or in earlier epochs; and each reply in a transcript has its place there.
pub record IsOfHistory (seen : List HistoryEntry) (closed : Closed) : Type 0 where
  pub legal : IsLegal seen
  pub journals : AllTraced seen 0 closed.journals.items
  pub transcripts : All (IsGivenIn seen) closed.transcripts.items

-- A store that was closed is that of one history: for `close_store`.
use Rattle.std.proofs.Common.{◌≡◌, List, Option, sym, subst}
use Rattle.std.specs.Prelude.{All, IfSome}
use Rattle.std.proofs.Math.Logic.{∥∥₁_map}
use mathlib.Core.List.{IsPrefix}
use Rattle.closed_store.specs.declared.closed.Closed.{Closed}
use Rattle.closed_store.specs.declared.transcript.Transcript.{Transcript}
use Rattle.history.specs.declared.entry.HistoryEntry.{HistoryEntry}
use Rattle.history.specs.Legal.{IsLegal}
use Rattle.hub.specs.Hubs.{AllTraced}
use Rattle.server_sessions.specs.Histories.{AreGivenIn, IsGivenIn, IsOfHistory}
use Rattle.server_sessions.proofs.KeptGiven.{all_given}
use Rattle.hub.specs.Hubs.{ConfigView}
use Rattle.load.specs.Stores.{HasHistory, IsClosed}

-- what was seen at the close, with what the seats had seen that left the transcripts
pub of_history : (closed : Closed) (seen : List HistoryEntry) (by_seats : Option (List HistoryEntry)) (kept : List Transcript) → closed.transcripts.items ≡ kept → IsLegal seen
    → IfSome by_seats (λ theirs. IsPrefix theirs seen) → AllTraced seen 0 closed.journals.items → ∥ AreGivenIn by_seats kept ∥₁ → ∥ IsOfHistory seen closed ∥₁
of_history closed seen by_seats kept is legal seats journals given = ∥∥₁_map given (λ each. record {
  legal = legal;
  journals = journals;
  transcripts = subst (All (IsGivenIn seen)) (sym is) (all_given by_seats seen kept seats each);
})

pub has_history : (closed : Closed) (seen : List HistoryEntry) → ∥ IsOfHistory seen closed ∥₁ → HasHistory closed
has_history closed seen of = ∥∥₁_map of (λ is. (seen, is))

-- a store that was closed, of a hub that was opened with this config
pub is_closed : (view hub : ConfigView) (closed : Closed) → IsClosed hub closed → hub ≡ view → IsClosed view closed
is_closed view hub closed is opened = subst (λ (v : ConfigView). IsClosed v closed) opened is

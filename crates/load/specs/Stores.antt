-- What the close of a store answers, and what opening one and running it come to.
use Rattle.std.specs.Prelude.{◌≡◌, ◌⊎◌, length, List, Result, IfOk, IfErr, true}
use Rattle.hub.specs.Hubs.{AllSoundBooks, ConfigView, config_view}
use Rattle.closed_store.specs.declared.closed.Closed.{Closed}
use Rattle.history.specs.declared.entry.HistoryEntry.{HistoryEntry}
use Rattle.server_sessions.specs.Histories.{IsOfHistory}
use Rattle.line_runs.specs.declared.fault.ProgramFault.{ProgramFault}
use Rattle.line_runs.specs.declared.fault.ProgramFault.TheVariants.{OutOfMemory, Device}

-- One history explains a store that was closed: where there are journals of a partition, all calls that it has of the
-- partition are in them or in earlier epochs; and each reply in the transcripts has its place there. That it is the history of
-- the store that was served is said by `close_store`, which answers what was seen of it.
abbrev pub HasHistory : Closed → Type 0
HasHistory closed = ∥ ((seen : List HistoryEntry) × IsOfHistory seen closed) ∥₁

-- What the close of a hub of this config answers, whether it kept journals or not: that config, and for each of its partitions, in their order, sound
-- journals of its tenants, or none, and the counts of their events. One history explains them.
pub record IsClosed (view : ConfigView) (closed : Closed) : Type 0 where
  pub config : config_view closed.config ≡ record view { journals = true }
  pub parts : length closed.journals.items ≡ view.parts
  pub books : AllSoundBooks view 0 closed.journals.items closed.counts.items
  pub history : HasHistory closed

-- what was done is so, or there was no memory, or a device failed
pub record DoneOrRefused {A : Type 0} (IsDone : A → Type 0) (result : Result A ProgramFault) : Type 0 where
  pub done : IfOk result IsDone
  pub refused : IfErr result (λ fault. (fault ≡ OutOfMemory) ⊎ (fault ≡ Device))

-- What settle judges: what a hub left of one tenant.
use Rattle.std.specs.Prelude.{ℕ, List, [], cond, nat_lt, slice_get, Option, Some, None}
use Rattle.std.specs.Global.{Vec}
use Rattle.stamps.specs.declared.bounds.Limits.{Limits}
use Rattle.plain_store.specs.Words.{Setup, setup_of}
use Rattle.partition.specs.Events.{Event}
use Rattle.partition.specs.declared.journal.Journal.{Journal}
use Rattle.closed_store.specs.declared.transcript.Transcript.{Transcript}
use Rattle.closed_store.specs.declared.closed.Closed.{Closed}

-- what was left, and the tenant that is judged with its limits
pub record Input : Type 0 where
  pub closed : Closed
  pub tenant : ℕ
  pub limits : Limits

abbrev pub input_of : Closed → ℕ → Limits → Input
input_of closed tenant limits = record { closed = closed; tenant = tenant; limits = limits }

-- what the tenant's store was opened with
abbrev pub setup_for : Input → Setup
setup_for input = setup_of input.closed.config.parts input.limits

-- all transcripts, the other tenants' too
abbrev pub transcripts_in : Input → List Transcript
transcripts_in input = input.closed.transcripts.items

abbrev pub journal_of_row : ℕ → Option (Vec Journal) → Option Journal
journal_of_row tenant None = None
journal_of_row tenant (Some books) = slice_get books.items tenant

-- the tenant's journal at a partition
abbrev pub journal_of_closed : Closed → ℕ → ℕ → Option Journal
journal_of_closed closed tenant partition = journal_of_row tenant (slice_get closed.journals.items partition)

abbrev pub events_of_journal : Option Journal → List Event
events_of_journal None = []
events_of_journal (Some journal) = journal.events.items

-- the events at a partition; none where there is no journal, and none where there is no such partition
abbrev pub events_of_partition : Input → ℕ → List Event
events_of_partition input partition =
    cond (nat_lt partition input.closed.config.parts)
    (events_of_journal (journal_of_closed input.closed input.tenant partition)) []

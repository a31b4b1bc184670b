-- What the sessions of a tenant began.
use Rattle.std.specs.Prelude.{◌==◌, ◌^◌, ◌-◌, ℕ, List, Option, Some, None, cond, min, sum_by}
use Rattle.plain_store.specs.declared.step.Act.{Act}
use Rattle.plain_store.specs.declared.step.Act.TheVariants.{Hello, Put, Get, Find, Deliver, Lose, Retry, Stop, Collect}
use Rattle.plain_store.specs.declared.step.Act.TheVariants.{Keep}
use Rattle.closed_store.specs.declared.closed.Closed.{Closed}
use Rattle.closed_store.specs.declared.transcript.Transcript.{Transcript}
use Rattle.entry_list.specs.declared.kinds.Operation.{Operation}
use Rattle.entry_list.specs.declared.kinds.Operation.TheVariants.{Put as OfPut, Get as OfGet, Find as OfFind}
use Rattle.entry_list.specs.declared.kinds.Entry.{Entry}
use Rattle.entry_list.specs.declared.kinds.Entry.TheVariants.{Began, Took, Answered}

-- how many puts, gets and finds there are
pub record BegunCounts : Type 0 where
  pub puts : ℕ
  pub gets : ℕ
  pub finds : ℕ

abbrev pub no_operation : BegunCounts
no_operation = record { puts = 0; gets = 0; finds = 0 }

-- what an act is
abbrev pub counts_of_act : Act → BegunCounts
counts_of_act (Put client items) = record { puts = 1; gets = 0; finds = 0 }
counts_of_act (Get client keys) = record { puts = 0; gets = 1; finds = 0 }
counts_of_act (Find client tag) = record { puts = 0; gets = 0; finds = 1 }
counts_of_act (Hello client base) = no_operation
counts_of_act (Deliver row) = no_operation
counts_of_act (Lose row) = no_operation
counts_of_act (Retry client) = no_operation
counts_of_act (Stop client) = no_operation
counts_of_act (Collect partition) = no_operation
counts_of_act (Keep keep) = no_operation

-- what an entry says that was begun
abbrev pub counts_of_entry : Entry → BegunCounts
counts_of_entry (Began act) = counts_of_act act
counts_of_entry (Took number partition place reply) = no_operation
counts_of_entry (Answered answer) = no_operation

-- what is reported of an operation, if one was begun
abbrev pub counts_of_operation : Option Operation → BegunCounts
counts_of_operation (Some OfPut) = record { puts = 1; gets = 0; finds = 0 }
counts_of_operation (Some OfGet) = record { puts = 0; gets = 1; finds = 0 }
counts_of_operation (Some OfFind) = record { puts = 0; gets = 0; finds = 1 }
counts_of_operation None = no_operation

-- how many operations of one of the three kinds were begun by a session, where it is of the tenant
abbrev pub counts_begun : (BegunCounts → ℕ) → ℕ → Transcript → ℕ
counts_begun kind tenant transcript =
    cond (transcript.tenant == tenant) (sum_by (λ (e : Entry). kind (counts_of_entry e)) transcript.entries.items) 0

-- the number that is reported of so many: counts stop at the greatest number
abbrev pub told_count : ℕ → ℕ
told_count count = min count (2 ^ 64 - 1)

-- how many operations of each kind those of these sessions began that are of a tenant, as it is reported
abbrev pub counts_in : List Transcript → ℕ → BegunCounts
counts_in transcripts tenant = record {
  puts = told_count (sum_by (counts_begun (λ c. c.puts) tenant) transcripts);
  gets = told_count (sum_by (counts_begun (λ c. c.gets) tenant) transcripts);
  finds = told_count (sum_by (counts_begun (λ c. c.finds) tenant) transcripts);
}

abbrev pub counts_of : Closed → ℕ → BegunCounts
counts_of closed tenant = counts_in closed.transcripts.items tenant

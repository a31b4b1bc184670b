-- Which jobs lie in a queue.
use Rattle.std.specs.Prelude.{List, All}
use Rattle.plain_store.specs.declared.refusal.Refusal.{Refusal}
use Rattle.plain_store.specs.declared.refusal.Refusal.TheVariants.{NoTenant, Late, OutOfMemory}
use Rattle.history.specs.declared.rule.Naming.{Ghosts}
use Rattle.shard.specs.declared.jobs.Fault.{Fault}
use Rattle.shard.specs.declared.jobs.Fault.TheVariants as fault
use Rattle.shard.specs.Homes.{HasHome}
use Rattle.shard.specs.declared.jobs.Job.{Job}
use Rattle.shard.specs.declared.jobs.Task.{Task}
use Rattle.shard.specs.declared.jobs.Task.TheVariants.{Serve, Cut}

abbrev pub IsJobAtHome : {J : Type 0} {naming : Ghosts J} → Job J naming → Type 0
IsJobAtHome job = HasHome job.call.message.value.call job.call.parts job.call.partition

abbrev pub IsTaskAtHome : {J : Type 0} {naming : Ghosts J} → Task J naming → Type 0
IsTaskAtHome (Serve job) = IsJobAtHome job
IsTaskAtHome Cut = Unit {0}

abbrev pub AreAtHome : {J : Type 0} {naming : Ghosts J} → List (Task J naming) → Type 0
AreAtHome tasks = All IsTaskAtHome tasks

-- how it is reported that a call was not served
abbrev pub refusal_of : Fault → Refusal
refusal_of fault.NoTenant = NoTenant
refusal_of fault.Late = Late
refusal_of fault.OutOfMemory = OutOfMemory

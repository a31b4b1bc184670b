-- Which steps take memory.
use Rattle.std.specs.Prelude.{◌≡◌, List, slice_get, Some, Result, OnErr}
use Rattle.stamps.specs.declared.bounds.Limits.{Limits}
use Rattle.plain_store.specs.declared.answer.Answer.{Answer}
use Rattle.plain_store.specs.declared.answer.Answer.TheVariants.{Refused}
use Rattle.plain_store.specs.declared.out_of_memory.OutOfMemory.{OutOfMemory}
use Rattle.plain_store.specs.declared.refusal.Refusal.{Refusal}
use Rattle.plain_store.specs.declared.step.Act.{Act}
use Rattle.plain_store.specs.declared.step.Act.TheVariants.{Hello, Put, Get as GetAll, Find, Deliver, Lose, Retry, Stop}
use Rattle.plain_store.specs.declared.step.Act.TheVariants.{Collect as CollectAt, Keep as SetKeep}
use Rattle.plain_store.specs.declared.step.Step.{Step}
use Rattle.plain_store.specs.Words.{Setup, setup_of}
use Rattle.plain_store.specs.History.{History}
use Rattle.plain_store.specs.Run.{answer_to}
use Rattle.tenant_sessions.specs.Sessions.{IsRun, IsNew}
use Rattle.world.specs.declared.tenant.Tenant.{Tenant}
use Rattle.world.specs.Content.{WorldContent, parts_of, limits_of}
use Rattle.world.specs.Standing.{TenantStandsFor, StandsFor, history_of}

-- the answer reports a refusal
abbrev pub IsRefused : Answer → Type 0
IsRefused answer = (refusal : Refusal) × (answer ≡ Refused refusal)

-- An act after this history that is answered so may take memory: none that is refused,
-- no hello of a client that is known, and none that loses a message, closes a session, collects or sets what
-- collections keep.
abbrev pub MayTakeMemory : History → Act → Answer → Type 0
MayTakeMemory history (Hello client base) answer = IsNew history client × (IsRefused answer → ⊥)
MayTakeMemory history (Put client items) answer = IsRefused answer → ⊥
MayTakeMemory history (GetAll client keys) answer = IsRefused answer → ⊥
MayTakeMemory history (Find client tag) answer = IsRefused answer → ⊥
MayTakeMemory history (Deliver row) answer = IsRefused answer → ⊥
MayTakeMemory history (Retry client) answer = IsRefused answer → ⊥
MayTakeMemory history (Lose row) answer = ⊥
MayTakeMemory history (Stop client) answer = ⊥
MayTakeMemory history (CollectAt partition) answer = ⊥
MayTakeMemory history (SetKeep keep) answer = ⊥

-- an allocation failed to an act of the tenant only where it may take some
abbrev pub AsksLast : Tenant → Act → Result Answer OutOfMemory → Type 0
AsksLast tenant act result =
    OnErr result ((setup : Setup) (history : History) → IsRun setup history → TenantStandsFor setup history tenant
    → MayTakeMemory history act (answer_to setup history act))

-- the same of a step of the world: there is its tenant, and the act may take memory
abbrev pub StepAsksLast : WorldContent → Step → Result Answer OutOfMemory → Type 0
StepAsksLast world step result =
    OnErr result ((before : List Step) → StandsFor world before
    → (its : Limits) × (slice_get (limits_of world) step.tenant ≡ Some its)
    × (let setup = setup_of (parts_of world) its in
    let history = history_of setup step.tenant before in
    MayTakeMemory history step.act (answer_to setup history step.act)))

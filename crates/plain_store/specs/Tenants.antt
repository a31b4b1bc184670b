-- Many tenants: what each is answered depends on its own steps alone.
use Rattle.std.specs.Prelude.{◌≡◌, ℕ, List, [], ◌∷◌, ◌++◌, ◌==◌, if◌then◌else◌, slice_get, Option, Some, None}
use Rattle.stamps.specs.declared.bounds.Limits.{Limits}
use Rattle.plain_store.specs.Words.{Act, Answer, Refused, Setup, setup_of}
use Rattle.plain_store.specs.Run.{answer_to, answers, run}
use Rattle.plain_store.specs.declared.refusal.Refusal.TheVariants.{NoTenant}
pub use Rattle.plain_store.specs.declared.step.Step.{Step}

-- a tenant's own steps, in order
abbrev pub only : ℕ → List Step → List Act
only tenant [] = []
only tenant (step ∷ steps) = if step.tenant == tenant then step.act ∷ only tenant steps else only tenant steps

-- the answers to the steps of one tenant
abbrev pub answers_to : Setup → List Act → List Answer
answers_to setup acts = answers setup [] acts

-- the answer to an act of the tenant with these limits, after its own acts; where there are none, there is no such
-- tenant
abbrev pub tenant_answer : ℕ → Option Limits → List Act → Act → Answer
tenant_answer partitions None acts act = Refused NoTenant
tenant_answer partitions (Some limits) acts act =
    answer_to (setup_of partitions limits) (run (setup_of partitions limits) [] acts) act

-- the answer to a step after the steps before it
unfoldable pub store_answer : ℕ → List Limits → List Step → Step → Answer
store_answer partitions limits before step =
    tenant_answer partitions (slice_get limits step.tenant) (only step.tenant before) step.act

-- the answers to the steps that follow others, in order
abbrev pub answers_after : ℕ → List Limits → List Step → List Step → List Answer
answers_after partitions limits before [] = []
answers_after partitions limits before (step ∷ steps) =
    store_answer partitions limits before step ∷ answers_after partitions limits (before ++ step ∷ []) steps

-- the answers of a store of so many partitions, with a tenant for each of these limits
abbrev pub store_answers : ℕ → List Limits → List Step → List Answer
store_answers partitions limits steps = answers_after partitions limits [] steps

-- of the answers to these steps, those to the tenant's own
abbrev pub own : ℕ → List Step → List Answer → List Answer
own tenant (step ∷ steps) (answer ∷ others) =
    if step.tenant == tenant then answer ∷ own tenant steps others else own tenant steps others
own tenant steps others = []

-- each tenant is answered as if its own steps were all
abbrev pub IsIsolated : ℕ → List Limits → List Step → List Answer → Type 0
IsIsolated partitions limits steps told =
    (tenant : ℕ) (its : Limits) → slice_get limits tenant ≡ Some its
    → own tenant steps told ≡ answers_to (setup_of partitions its) (only tenant steps)

-- What the world's answer to a step promises.
use Rattle.std.specs.Prelude.{◌≡◌, ℕ, Bool, List, [], ◌∷◌, ◌++◌, Result, IfOk, OnOk, OnErr}
use Rattle.stamps.specs.declared.bounds.Limits.{Limits}
use Rattle.plain_store.specs.declared.answer.Answer.{Answer}
use Rattle.plain_store.specs.declared.out_of_memory.OutOfMemory.{OutOfMemory}
use Rattle.plain_store.specs.declared.step.Step.{Step}
use Rattle.plain_store.specs.Tenants.{store_answer}
use Rattle.world.specs.Content.{WorldContent, parts_of, limits_of}
use Rattle.world.specs.Memory.{StepAsksLast}
use Rattle.world.specs.Promises.{StepIsPromised, ArePromised, AreCallsOf}
use Rattle.world.specs.Running.{Ran, added, steps_taken}
use Rattle.world.specs.Standing.{StandsFor}

-- A step was answered, or memory was refused to it, whatever steps the world stood for.
pub record StepsOn (step : Step) (old new : WorldContent) (told : Result Answer OutOfMemory) : Type 0 where
  -- the answer is the one that the plain store gives after these steps
  pub answer : IfOk told (λ answer. (before : List Step) → StandsFor old before
      → answer ≡ store_answer (parts_of old) (limits_of old) before step)
  -- the world then stands for these steps and this one
  pub stands : OnOk told ((before : List Step) → StandsFor old before → StandsFor new (before ++ step ∷ []))
  -- where memory was refused, it stands for these steps as before
  pub unchanged : OnErr told ((before : List Step) → StandsFor old before → StandsFor new before)
  -- memory is refused only to a step that is not, and that neither loses nor stops nor collects nor sets what is kept
  pub asks : StepAsksLast old step told
  -- each promise is kept: the answer is read atomic, true, fresh and so on
  pub promised : StepIsPromised old step told
  -- the calls that the world holds go home and are few
  pub calls : OnOk told ((before : List Step) → StandsFor old before → AreCallsOf new (before ++ step ∷ []))
  -- it has as many partitions, and its tenants have their limits
  pub parts : parts_of new ≡ parts_of old
  pub limits : limits_of new ≡ limits_of old

-- Steps were taken, up to the first to which memory was refused, whatever steps the world stood for; and the answers to them were added.
pub record RunsOn (steps : List Step) (told_before told : List Answer) (old new : WorldContent) (is_whole : Bool) : Type 0 where
  pub ran : (before : List Step) → StandsFor old before
      → Ran (parts_of old) (limits_of old) new before steps told_before told is_whole
  -- each tenant is answered as if its own steps were all, and each promise is kept by each answer
  pub promised : (before : List Step) → StandsFor old before
      → ArePromised (parts_of old) (limits_of old) before steps (added told_before told)
  -- the calls that the world holds go home and are few
  pub calls : (before : List Step) → StandsFor old before → AreCallsOf new (before ++ steps_taken steps told_before told)
  -- it has as many partitions, and its tenants have their limits
  pub parts : parts_of new ≡ parts_of old
  pub limits : limits_of new ≡ limits_of old

-- a world that was opened, for which no step was taken
pub record IsOpenedWorld (count : ℕ) (of_each : List Limits) (world : WorldContent) : Type 0 where
  pub parts : parts_of world ≡ count
  pub limits : limits_of world ≡ of_each
  pub stands : StandsFor world []

-- What a run leaves.
use Rattle.std.specs.Prelude.{◌≡◌, ℕ, Bool, true, List, ◌++◌, length, take, drop}
use Rattle.plain_store.specs.declared.answer.Answer.{Answer}
use Rattle.plain_store.specs.declared.step.Step.{Step}
use Rattle.stamps.specs.declared.bounds.Limits.{Limits}
use Rattle.plain_store.specs.Tenants.{answers_after}
use Rattle.world.specs.Content.{WorldContent}
use Rattle.world.specs.Standing.{StandsFor}

-- the answers that were added
abbrev pub added : List Answer → List Answer → List Answer
added old new = drop (length old) new

-- the steps that were taken: each has an answer
abbrev pub steps_taken : List Step → List Answer → List Answer → List Step
steps_taken steps old new = take (length (added old new)) steps

-- The steps were taken up to some step, each was answered as the plain store answers it,
-- and the world stands for what was taken.
pub record Ran (partitions : ℕ) (limits : List Limits) (world : WorldContent) (before steps : List Step)
    (old new : List Answer) (whole : Bool) : Type 0 where
  pub answers : new ≡ old ++ answers_after partitions limits before (steps_taken steps old new)
  pub stands : StandsFor world (before ++ steps_taken steps old new)
  pub all : whole ≡ true → steps_taken steps old new ≡ steps

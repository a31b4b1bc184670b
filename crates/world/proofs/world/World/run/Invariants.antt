use Rattle.std.proofs.Common.{◌≡◌, ℕ, List, ◌++◌, take, slice_get, Some}
use Rattle.plain_store.specs.declared.step.Step.{Step}
use Rattle.plain_store.specs.Tenants.{answers_after, store_answer}
use Rattle.world.specs.Content.{parts_of, limits_of}
use Rattle.world.specs.Standing.{StandsFor}
use Rattle.world.specs.Promises.{IsPromisedAfter}
use Rattle.world.proofs.world.World.run.Given as goal

-- each step so far has its answer, with what is promised of it, and the world stands for them
abbrev pub invariant-loop-step : goal.invariant-loop-step
invariant-loop-step l = record {
  parts : parts_of l.self ≡ parts_of l.fn.self;
  limits : limits_of l.self ≡ limits_of l.fn.self;
  told : (before : List Step) → StandsFor l.fn.self before → l.answers.items ≡ l.fn.answers.items ++ answers_after (parts_of l.fn.self) (limits_of l.fn.self) before (take l.step-index l.steps);
  stands : (before : List Step) → StandsFor l.fn.self before → StandsFor l.self (before ++ take l.step-index l.steps);
  promised : (before : List Step) → StandsFor l.fn.self before → (n : ℕ) (step : Step) → slice_get (take l.step-index l.steps) n ≡ Some step
      → IsPromisedAfter (parts_of l.fn.self) (limits_of l.fn.self) (before ++ take n l.steps) step (store_answer (parts_of l.fn.self) (limits_of l.fn.self) (before ++ take n l.steps) step);
}

-- What the store that takes the steps anew answers.
use Rattle.std.proofs.Common.{◌≡◌, suc, arith, ℕ, List, [], ◌∷◌, ◌++◌, Option, Some, None, refl, ap, ◌∙◌, map}
use Rattle.std.specs.Prelude.{All}
use Rattle.plain_store.specs.Words.{Setup, IsAct}
use Rattle.plain_store.specs.History.{History}
use Rattle.plain_store.specs.Run.{answer_to, run}
use Rattle.plain_store.specs.Tenants.{only, store_answer}
use Rattle.settle.specs.Words.{Act, SetKeep, Step}
use Rattle.world.specs.Standing.{history_of}
use Rattle.world.proofs.Moments.{run-push}
use Rattle.settle.specs.Input.{Input, setup_for}
use Rattle.settle.specs.Trace.{Trace, after, ready, with_keep, with_act, keep_before, and_keep, acts_of, acts_before}
use Rattle.settle.specs.Replaying.{step_of, steps_of}

-- all the steps are its tenant's
only-own : (acts : List Act) → only 0 (map (step_of 0) acts) ≡ acts
only-own [] = refl
only-own (act ∷ acts) = ap (λ rest. act ∷ rest) (only-own acts)

-- the steps with one act more
pub steps-push : (acts : List Act) (act : Act) → steps_of (acts ++ act ∷ []) ≡ steps_of acts ++ step_of 0 act ∷ []
steps-push [] act = refl
steps-push (a ∷ acts) act = ap (λ rest. step_of 0 a ∷ rest) (steps-push acts act)

-- the last of valid steps is valid
pub all_last : (xs : List Step) (y : Step) → All (λ (step : Step). IsAct step.act) (xs ++ y ∷ []) → IsAct y.act
all_last [] y all = all 0 y (omega arith)
all_last (x ∷ xs) y all = all_last xs y (λ k d h. all (suc k) d (omega (arith, h)))

-- a run with one act more
pub run-more : (setup : Setup) (acts : List Act) (history : History) (act : Act) → run setup [] acts ≡ history → run setup [] (acts ++ act ∷ []) ≡ with_act setup act history
run-more setup acts history act ran = run-push setup [] acts act ∙ ap (with_act setup act) ran

run-keep : (setup : Setup) (acts : List Act) (history : History) (keep : Option ℕ) → run setup [] acts ≡ history → run setup [] (and_keep acts keep) ≡ with_keep setup history keep
run-keep setup acts history None ran = ran
run-keep setup acts history (Some keep) ran = run-more setup acts history (SetKeep keep) ran

-- the history after the steps is the one that they leave
pub run-after : (input : Input) (trace : Trace) → run (setup_for input) [] (acts_of input trace) ≡ after input trace
run-after input [] = refl
run-after input (taken ∷ older) =
    run-more (setup_for input) (acts_before input older taken.origin) (ready input older taken.origin) taken.act
    (run-keep (setup_for input) (acts_of input older) (after input older) (keep_before input older taken.origin) (run-after input older))

-- the history of a store of one tenant
pub history_played : (input : Input) (acts : List Act) (history : History) → run (setup_for input) [] acts ≡ history → history_of (setup_for input) 0 (steps_of acts) ≡ history
history_played input acts history ran = ap (run (setup_for input) []) (only-own acts) ∙ ran

-- its answer
pub answer_played : (input : Input) (acts : List Act) (history : History) (act : Act) → run (setup_for input) [] acts ≡ history
    → store_answer input.closed.config.parts (input.limits ∷ []) (steps_of acts) (step_of 0 act) ≡ answer_to (setup_for input) history act
unfolding store_answer
answer_played input acts history act ran = ap (λ h. answer_to (setup_for input) h act) (history_played input acts history ran)

-- Progress that has taken no step.
use Rattle.std.proofs.Common.{◌≡◌, ℕ, List, [], refl, sym, subst, slice_get, Some}
use Rattle.std.specs.Prelude.{All}
use Rattle.std.specs.Global.{Vec}
use Rattle.std.proofs.lemmas.Option.{slice_get_within, get_or_from_slice_get}
use Rattle.settle.specs.declared.progress.TranscriptState.{TranscriptState}
use Rattle.settle.specs.declared.progress.TranscriptState.TheVariants.{Waiting}
use Rattle.settle.specs.declared.progress.Progress.{Progress}
use Rattle.settle.specs.Input.{Input}
use Rattle.settle.specs.Replaying.{Replays}
use Rattle.settle.specs.Standing.{IsAt, HasTakenSteps}

at_each : {X : Type 0} (P : X → Type 0) (xs : List X) (k : ℕ) (x : X) → All P xs → slice_get xs k ≡ Some x → P x
at_each P xs k x all at = subst P (get_or_from_slice_get xs k x x at) (all k x (slice_get_within xs k x at))

pub opened : (input : Input) (progress : Progress) → Replays input [] progress.replay → All (λ (stage : TranscriptState). stage ≡ Waiting) progress.stages.items
    → All (λ (rows : Vec ℕ). rows.items ≡ []) progress.sent.items → All (λ (rows : Vec ℕ). rows.items ≡ []) progress.replies.items → progress.steps.items ≡ [] → HasTakenSteps input [] progress
opened input progress replays waiting sent replies steps = record {
  noted = record {
    replays = replays;
    stages = λ place transcript stage its at. subst (IsAt [] place transcript) (sym (at_each (λ (s : TranscriptState). s ≡ Waiting) progress.stages.items place stage waiting at)) (record { rest = refl; compared = tt });
    sent = λ seat slot rows slotted at. at_each (λ (r : Vec ℕ). r.items ≡ []) progress.sent.items slot rows sent at;
    replies = λ partition rows at. at_each (λ (r : Vec ℕ). r.items ≡ []) progress.replies.items partition rows replies at;
  };
  steps = steps;
  front = tt;
  agree = tt;
}

-- One step more.
use Rattle.std.proofs.Common.{ℕ, ◌≡◌, Bool, ◌==◌, cond, List, [], ◌∷◌, ◌++◌, Option, Some, None, map, slice_get, refl, sym, ap, ◌∙◌, subst}
use Rattle.std.specs.Global.{Vec}
use Rattle.settle.specs.declared.progress.TranscriptState.{TranscriptState}
use Rattle.settle.specs.declared.progress.Progress.{Progress}
use Rattle.plain_store.specs.History.{keep_in}
use Rattle.settle.specs.Words.{Act, SetKeep}
use Rattle.settle.specs.Input.{Input, setup_for}
use Rattle.settle.specs.Trace.{Origin, OfJournal, TracedStep, Trace, after, with_keep, with_act, differing, keep_told, keep_before, and_keep, acts_of, acts_before}
use Rattle.partition.specs.Events.{Event}
use Rattle.settle.specs.Fronts.{IsNextEvent, MayTake, AgreesAt}
use Rattle.settle.specs.Replaying.{step_of, Plays}
use Rattle.settle.specs.Standing.{IsNotedOf, IsNotedWith, HasTakenSteps, IsReady}

map-push : (tenant : ℕ) (acts : List Act) (act : Act) → map (step_of tenant) (acts ++ act ∷ []) ≡ map (step_of tenant) acts ++ step_of tenant act ∷ []
map-push tenant [] act = refl
map-push tenant (a ∷ acts) act = ap (λ rest. step_of tenant a ∷ rest) (map-push tenant acts act)

module _ (input : Input) (trace : Trace) (origin : Origin) (act : Act) (old new last : Progress) where
  abbrev taken : TracedStep
  taken = record { origin = origin; act = act }

  -- the step is written down once it was noted
  pub written : IsReady input trace origin old → MayTake input trace origin act → IsNotedOf input (taken ∷ trace) new × AgreesAt input trace origin act
      → last.replay ≡ new.replay → last.stages ≡ new.stages → last.sent ≡ new.sent → last.replies ≡ new.replies
      → last.steps.items ≡ old.steps.items ++ step_of input.tenant act ∷ [] → HasTakenSteps input (taken ∷ trace) last
  written ready may noted a b c d steps = record {
    noted = subst (IsNotedOf input (taken ∷ trace)) (λ i. record { replay = sym a i; stages = sym b i; sent = sym c i; replies = sym d i; steps = last.steps })
        (record { replays = noted.0.replays; stages = noted.0.stages; sent = noted.0.sent; replies = noted.0.replies });
    steps = steps ∙ ap (λ items. items ++ step_of input.tenant act ∷ []) ready.steps ∙ sym (map-push input.tenant (acts_before input trace origin) act);
    front = (may, ready.front);
    agree = (noted.1, ready.agree);
  }

-- ---- the Keep step before a step

module _ (input : Input) (trace : Trace) (partition : ℕ) (event : Event) (next : IsNextEvent input trace partition event) where
  -- what the event named is set, unless it is in force
  pub named : (own keep : ℕ) (b : Bool) → Some keep ≡ keep_told (Some event) → own ≡ keep_in (setup_for input) (after input trace) → b ≡ (own == keep) → cond b None (Some keep) ≡ keep_before input trace (OfJournal partition)
  named own keep b told force test =
      ap (λ t. cond t None (Some keep)) test ∙ ap (λ o. cond (o == keep) None (Some keep)) force ∙ ap (differing (keep_in (setup_for input) (after input trace))) (told ∙ sym (ap keep_told next))

  -- where it named nothing, nothing is set
  pub none_named : None ≡ keep_told (Some event) → None ≡ keep_before input trace (OfJournal partition)
  none_named told = ap (differing (keep_in (setup_for input) (after input trace))) (told ∙ sym (ap keep_told next))

module _ (input : Input) (trace : Trace) (origin : Origin) (old : Progress) (stands : HasTakenSteps input trace old) where
  abbrev Noted : Progress → Option ℕ → Type 0
  Noted progress keep = IsNotedWith input trace (and_keep (acts_of input trace) keep) (with_keep (setup_for input) (after input trace) keep) progress

  -- there is none
  pub ready_already : None ≡ keep_before input trace origin → IsReady input trace origin old
  ready_already is = record {
    noted = subst (Noted old) is stands.noted;
    steps = stands.steps ∙ ap (λ keep. map (step_of input.tenant) (and_keep (acts_of input trace) keep)) is;
    front = stands.front;
    agree = stands.agree;
  }

  -- it was taken
  pub made_ready : (new : Progress) (keep : ℕ) → Some keep ≡ keep_before input trace origin
      → Plays input (acts_of input trace ++ SetKeep keep ∷ []) (with_act (setup_for input) (SetKeep keep) (after input trace)) new.replay
      → new.steps.items ≡ old.steps.items ++ step_of input.tenant (SetKeep keep) ∷ [] → new.stages ≡ old.stages → new.sent ≡ old.sent → new.replies ≡ old.replies → IsReady input trace origin new
  made_ready new keep is played steps stages sent replies = record {
    noted = subst (Noted new) is (record {
      replays = played;
      stages = λ place transcript stage its at. stands.noted.stages place transcript stage its (ap (λ (v : Vec TranscriptState). slice_get v.items place) (sym stages) ∙ at);
      sent = λ seat slot rows slotted at. stands.noted.sent seat slot rows slotted (ap (λ (v : Vec (Vec ℕ)). slice_get v.items slot) (sym sent) ∙ at);
      replies = λ partition rows at. stands.noted.replies partition rows (ap (λ (v : Vec (Vec ℕ)). slice_get v.items partition) (sym replies) ∙ at);
    });
    steps = steps ∙ ap (λ items. items ++ step_of input.tenant (SetKeep keep) ∷ []) stands.steps ∙ sym (map-push input.tenant (acts_of input trace) (SetKeep keep))
        ∙ ap (λ k. map (step_of input.tenant) (and_keep (acts_of input trace) k)) is;
    front = stands.front;
    agree = stands.agree;
  }

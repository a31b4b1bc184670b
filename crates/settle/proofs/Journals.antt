-- A step that a journal gives.
use Rattle.std.proofs.Common.{◌≡◌, ◌+◌, ℕ, [], ◌∷◌, ◌++◌, Bool, true, false, cond, ◌==◌, inl, inr, length, length-append, append-nil, slice_get, Some, refl, sym, ap, ◌∙◌, subst, arith, eq-eqb}
use Rattle.std.specs.Global.{Vec}
use Rattle.std.proofs.lemmas.Bool.{cases_Bool, eqb-true}
use Rattle.plain_store.specs.Words.{IsAct}
use Rattle.partition.specs.Events.{Event}
use Rattle.settle.specs.declared.progress.Progress.{Progress}
use Rattle.settle.specs.declared.replay.Replay.{Replay}
use Rattle.settle.specs.Words.{Act}
use Rattle.settle.specs.Input.{Input, setup_for}
use Rattle.settle.specs.Trace.{OfJournal, TracedStep, Trace, answered, ready, is_origin, times, row_replied, call_rows, replies_sent}
use Rattle.settle.specs.Fronts.{IsNextEvent, Brings, AgreesAt, AgreesWithEvent}
use Rattle.settle.specs.Replaying.{Replays}
use Rattle.settle.specs.Standing.{IsPushed, AreReplies, IsNotedOf, IsNotedReady, call_coming, reply_told}
use Rattle.settle.proofs.Words.{some_is}
use Rattle.settle.proofs.Served.{agrees_event, event_agreed}

-- as many replies were noted as events were taken
pub times-replies : (input : Input) (partition : ℕ) (trace : Trace) → length (replies_sent input partition trace) ≡ times (OfJournal partition) trace
times-replies input partition [] = refl
times-replies input partition (taken ∷ older) =
    length-append (replies_sent input partition older) (cond (is_origin taken.origin (OfJournal partition)) (row_replied (answered input older taken) ∷ []) [])
    ∙ go (is_origin taken.origin (OfJournal partition)) (times-replies input partition older)
  where
    go : (b : Bool) → length (replies_sent input partition older) ≡ times (OfJournal partition) older
        → length (replies_sent input partition older) + length (cond b (row_replied (answered input older taken) ∷ []) []) ≡ cond b (times (OfJournal partition) older + 1) (times (OfJournal partition) older)
    go true e = omega (arith, e)
    go false e = omega (arith, e)

-- what an event brings is a delivery or a collection
pub brought_act : (input : Input) (trace : Trace) (partition : ℕ) (event : Event) (act : Act) → Brings input trace partition event act → IsAct act
brought_act input trace partition event act (inl h) = subst IsAct (sym h.1) tt
brought_act input trace partition event act (inr h) = subst IsAct (sym h.1.1) tt

module _ (input : Input) (trace : Trace) (partition : ℕ) (act : Act) where
  abbrev taken : TracedStep
  taken = record { origin = OfJournal partition; act = act }

  pub journal_agrees : (event : Event) → IsNextEvent input trace partition event → IsAct act → call_coming (setup_for input) (ready input trace (OfJournal partition)) partition act ≡ Some event.call → reply_told (answered input trace taken) ≡ Some event.reply → AgreesAt input trace (OfJournal partition) act
  journal_agrees event next valid brought replied other also =
      subst (AgreesWithEvent input trace (OfJournal partition) act partition) (some_is event other (sym next ∙ also)) (agrees_event input trace partition act event valid brought replied)

  pub journal_agreed : (event : Event) → IsNextEvent input trace partition event → IsAct act → AgreesAt input trace (OfJournal partition) act → (call_coming (setup_for input) (ready input trace (OfJournal partition)) partition act ≡ Some event.call) × (reply_told (answered input trace taken) ≡ Some event.reply)
  journal_agreed event next valid agrees = event_agreed input trace partition act event valid (agrees event next)

  -- what was noted, with the row of the reply
  pub journal_noted : (old : Progress) (replay : Replay) (replies : Vec (Vec ℕ)) (row : ℕ) → IsNotedReady input trace (OfJournal partition) old → Replays input (taken ∷ trace) replay → row ≡ row_replied (answered input trace taken)
      → IsPushed old.replies.items replies.items partition (row ∷ []) → IsNotedOf input (taken ∷ trace) (record { replay = replay; stages = old.stages; sent = old.sent; replies = replies; steps = old.steps })
  journal_noted old replay replies row noted replays is pushed = record {
    replays = replays;
    stages = λ place transcript stage its at. let was = noted.stages place transcript stage its at in record { rest = was.rest; compared = was.compared };
    sent = λ seat slot rows slotted at. noted.sent seat slot rows slotted at ∙ sym (append-nil (call_rows input seat trace));
    replies = λ k rows at. elim (cases_Bool (partition == k)) [
      | inl h ↦
          let same : partition ≡ k = eqb-true partition k h in
          let put = pushed.here rows (ap (slice_get replies.items) same ∙ at) in
          put.2 ∙ ap (λ items. items ++ row ∷ []) (noted.replies partition put.0 put.1) ∙ ap (λ r. replies_sent input partition trace ++ r ∷ []) is
          ∙ ap (λ p. replies_sent input p trace ++ row_replied (answered input trace taken) ∷ []) same
          ∙ ap (λ b. replies_sent input k trace ++ cond b (row_replied (answered input trace taken) ∷ []) []) (sym h)
      | inr h ↦
          noted.replies k rows (sym (pushed.others k (λ e. apart k h (sym e))) ∙ at) ∙ sym (append-nil (replies_sent input k trace))
          ∙ ap (λ b. replies_sent input k trace ++ cond b (row_replied (answered input trace taken) ∷ []) []) (sym h)
    ];
  }
    where
      apart : (k : ℕ) → (partition == k) ≡ false → partition ≡ k → ⊥
      apart k h e = let t : (partition == k) ≡ true = eq-eqb partition k e in let bad : true ≡ false = sym t ∙ h in cc

-- the event after those that were noted
pub next_noted : (input : Input) (trace : Trace) (progress : Progress) (partition : ℕ) (rows : Vec ℕ) → AreReplies input trace progress → slice_get progress.replies.items partition ≡ Some rows → length rows.items ≡ times (OfJournal partition) trace
next_noted input trace progress partition rows noted at = ap length (noted partition rows at) ∙ times-replies input partition trace

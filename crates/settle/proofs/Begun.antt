-- A session that has begun comes after sessions that are over.
use Rattle.std.proofs.Common.{◌≡◌, ◌+◌, ◌<◌, ◌≤◌, ℕ, [], ◌∷◌, Bool, true, false, cond, ◌==◌, inl, inr, length, get_or, slice_get, Some, None, Option, refl, sym, ap, ◌∙◌, subst, arith}
use Rattle.std.proofs.lemmas.Bool.{cases_lt, eqb-true}
use Rattle.std.proofs.lemmas.Option.{slice_get_within, slice_get-get_or}
use Rattle.closed_store.specs.declared.transcript.Transcript.{Transcript}
use Rattle.settle.specs.declared.progress.TranscriptState.{TranscriptState}
use Rattle.settle.specs.declared.progress.TranscriptState.TheVariants.{Over}
use Rattle.settle.specs.declared.progress.Progress.{Progress}
use Rattle.settle.specs.Words.{Act, Ready}
use Rattle.settle.specs.Input.{Input, transcripts_in}
use Rattle.settle.specs.Program.{Greets, TranscriptItem, noted, program_of}
use Rattle.settle.specs.Trace.{Origin, OfTranscript, OfJournal, TracedStep, Trace, is_origin, times}
use Rattle.settle.specs.Fronts.{IsTranscriptAt, IsOver, Gives, EarlierAreOver, MayTake, IsFront}
use Rattle.settle.specs.Standing.{HasTakenSteps}
use Rattle.settle.specs.Sessions.{IsLastBefore, IsRightBefore, IsSessionOver}
use Rattle.settle.proofs.Words.{some_is}
use Rattle.settle.proofs.NextSteps.{over, not_over}

more : (b : Bool) (l n : ℕ) → l ≤ n → l ≤ cond b (n + 1) n
more true l n h = omega arith
more false l n h = h

-- a session that is over stays so
over_later : (taken : TracedStep) (older : Trace) (place : ℕ) (transcript : Transcript) → IsOver older place transcript → IsOver (taken ∷ older) place transcript
over_later taken older place transcript over = more (is_origin taken.origin (OfTranscript place)) (length (program_of transcript)) (times (OfTranscript place) older) over

earlier_later : (input : Input) (taken : TracedStep) (older : Trace) (place : ℕ) (transcript : Transcript) → EarlierAreOver input older place transcript → EarlierAreOver input (taken ∷ older) place transcript
earlier_later input taken older place transcript earlier i other its comes = over_later taken older i other (earlier i other its comes)

-- the first step is the hello
greets : (input : Input) (older : Trace) (place : ℕ) (act : Act) (transcript : Transcript) → IsTranscriptAt input place transcript → times (OfTranscript place) older ≡ 0 → MayTake input older (OfTranscript place) act → EarlierAreOver input older place transcript
greets input older place act transcript its none may =
    let same : may.0 ≡ transcript = some_is may.0 transcript (sym may.2.0 ∙ its.0) in
    let greeting : TranscriptItem = record { doing = Greets; noted = Ready may.0.counter ∷ noted may.0.entries.items } in
    let first : may.1 ≡ greeting = some_is may.1 greeting (sym may.3 ∙ ap (slice_get (program_of may.0)) none) in
    let gives : Gives input older place may.0 Greets act = subst (λ (i : TranscriptItem). Gives input older place may.0 i.doing act) first may.4 in
    subst (EarlierAreOver input older place) same gives.1

-- a session that took a step began after the client's earlier sessions were over
pub begun : (input : Input) (place : ℕ) (transcript : Transcript) (trace : Trace) → IsTranscriptAt input place transcript → IsFront input trace → 0 < times (OfTranscript place) trace → EarlierAreOver input trace place transcript
begun input place transcript [] its front some = absurd (omega arith)
begun input place transcript (taken ∷ older) its front some =
    earlier_later input taken older place transcript (elim (cases_lt 0 (times (OfTranscript place) older)) [
      | inl h ↦ begun input place transcript older its front.1 h
      | inr h ↦ go taken.origin front.0 some (omega arith)
    ])
  where
    here : (i : ℕ) (b : Bool) → (i == place) ≡ b → MayTake input older (OfTranscript i) taken.act → 0 < cond b (times (OfTranscript place) older + 1) (times (OfTranscript place) older) → times (OfTranscript place) older ≡ 0 → EarlierAreOver input older place transcript
    here i true is may some none = greets input older place taken.act transcript its none (subst (λ k. MayTake input older (OfTranscript k) taken.act) (eqb-true i place is) may)
    here i false is may some none = absurd (omega arith)

    go : (o : Origin) → MayTake input older o taken.act → 0 < cond (is_origin o (OfTranscript place)) (times (OfTranscript place) older + 1) (times (OfTranscript place) older) → times (OfTranscript place) older ≡ 0 → EarlierAreOver input older place transcript
    go (OfTranscript i) may some none = here i (i == place) refl may some none
    go (OfJournal p) may some none = absurd (omega arith)

-- a session that is over has taken a step
started : (trace : Trace) (place : ℕ) (transcript : Transcript) → IsOver trace place transcript → 0 < times (OfTranscript place) trace
started trace place transcript over = omega (arith, over)

-- ---- the session right before

module _ (input : Input) (trace : Trace) (progress : Progress) (stands : HasTakenSteps input trace progress) (place : ℕ) (transcript : Transcript) where
  after_one : (p : ℕ) → IsRightBefore (transcripts_in input) input.tenant (length (transcripts_in input)) place transcript p → slice_get progress.stages.items p ≡ Some Over → EarlierAreOver input trace place transcript
  after_one p right at i earlier its comes =
      let is_over : IsOver trace p right.session = over trace p right.session Over (stands.noted.stages p right.session Over right.its at) refl in
      elim (right.last i earlier (slice_get_within (transcripts_in input) i earlier its.0) its comes) [
        | inl same ↦
            let is : right.session ≡ earlier = some_is right.session earlier (sym right.its.0 ∙ ap (slice_get (transcripts_in input)) (sym same) ∙ its.0) in
            subst (λ k. IsOver trace k earlier) (sym same) (subst (IsOver trace p) is is_over)
        | inr before ↦ begun input p right.session trace right.its stands.front (started trace p right.session is_over) i earlier its before
      ]

  -- where the session right before is over, all earlier ones are
  pub earlier_over : (found : Option ℕ) → IsLastBefore (transcripts_in input) input.tenant (length (transcripts_in input)) place transcript found → IsSessionOver progress.stages.items found → EarlierAreOver input trace place transcript
  earlier_over None none past = λ i earlier its comes. absurd (none i earlier (slice_get_within (transcripts_in input) i earlier its.0) its comes)
  earlier_over (Some p) right past = after_one p right past

  -- and where it is not, not all are
  pub earlier_left : length progress.stages.items ≡ length (transcripts_in input) → (found : Option ℕ) → IsLastBefore (transcripts_in input) input.tenant (length (transcripts_in input)) place transcript found
      → (IsSessionOver progress.stages.items found → ⊥) → EarlierAreOver input trace place transcript → ⊥
  earlier_left sized None none left earlier = left tt
  earlier_left sized (Some p) right left earlier =
      let within : p < length progress.stages.items = omega (arith, sized, slice_get_within (transcripts_in input) p right.session right.its.0) in
      let stage : TranscriptState = get_or progress.stages.items p Over in
      let at : slice_get progress.stages.items p ≡ Some stage = slice_get-get_or progress.stages.items p Over within in
      not_over trace p right.session stage (stands.noted.stages p right.session stage right.its at) (λ is. left (at ∙ ap Some is)) (earlier p right.session right.its right.before)

-- A step that a transcript gives.
use Rattle.std.proofs.Common.{◌≡◌, ◌≢◌, ◌+◌, ℕ, zero, suc, List, [], ◌∷◌, ◌++◌, Bool, true, false, cond, ◌==◌, inl, inr, length, append-nil, drop, set, slice_get, Option, Some, None, IsTrue, ◌↔◌, refl, sym, ap, ◌∙◌, subst, arith, eq-eqb}
use Rattle.std.specs.Global.{Vec}
use Rattle.std.proofs.lemmas.Bool.{cases_Bool, cases_lt, ne_eqb, eqb-true}
use Rattle.std.proofs.lemmas.List.{drop-drop}
use Rattle.std.proofs.lemmas.Option.{slice_get_within}
use Rattle.world.proofs.Results.{after_set}
use Rattle.closed_store.specs.declared.transcript.Transcript.{Transcript}
use Rattle.settle.specs.declared.progress.TranscriptState.{TranscriptState}
use Rattle.settle.specs.declared.progress.Progress.{Progress}
use Rattle.settle.specs.declared.replay.Replay.{Replay}
use Rattle.plain_store.specs.History.{History}
use Rattle.settle.specs.Words.{Act, Answer, Reply}
use Rattle.settle.specs.Input.{Input, transcripts_in}
use Rattle.settle.specs.Program.{TranscriptItem, reply_taken, program_of}
use Rattle.settle.specs.Trace.{OfTranscript, TracedStep, Trace, told_next, after, is_origin, times, is_seat, is_seats_step, rows_sent, call_rows, replies_sent}
use Rattle.settle.specs.Fronts.{IsTranscriptAt, IsNextItem, MayTake, AgreesAt, AgreesWithItem, reply_delivered, Delivers}
use Rattle.settle.specs.Replaying.{Replays}
use Rattle.settle.specs.Standing.{rest_of, IsCompared, IsNextReply, IsAt, Advances, AreAll, NoneOfSeat, IsSlot, IsPushed, IsNotedOf}
use Rattle.settle.proofs.Words.{some_is, none_some}

-- what is next is the first of what is left
pub next-rest : {X : Type 0} (xs : List X) (n : ℕ) → slice_get xs n ≡ slice_get (drop n xs) 0
next-rest [] zero = refl
next-rest [] (suc n) = refl
next-rest (x ∷ xs) zero = refl
next-rest (x ∷ xs) (suc n) = next-rest xs n

-- a step delivers the reply that was taken, where it delivers one that is the same
pub delivers_it : (history : History) (act : Act) (reply : Option Reply) (taken delivered : Reply) (same : Bool) → reply ≡ Some taken → reply_delivered history act ≡ Some delivered → (IsTrue same ↔ (delivered ≡ taken))
    → IsTrue same ↔ Delivers history act reply
delivers_it history act reply taken delivered same took delivers tells =
    subst (λ r. IsTrue same ↔ Delivers history act r) (sym took) (
      λ yes. delivers ∙ ap Some (tells.0 yes),
      λ is. tells.1 (some_is delivered taken (sym delivers ∙ is)),
    )

-- and does not, where it delivers none
pub delivers_none : (history : History) (act : Act) (reply : Option Reply) (taken : Reply) → reply ≡ Some taken → reply_delivered history act ≡ None → IsTrue false ↔ Delivers history act reply
delivers_none history act reply taken took delivers =
    subst (λ r. IsTrue false ↔ Delivers history act r) (sym took) (
      λ no. let bad : false ≡ true = no in cc,
      λ is. absurd (none_some (reply_delivered history act) (sym delivers) taken is),
    )

-- the reply that the session's stage gives next is the one that it takes next
pub next_reply : (input : Input) (trace : Trace) (place : ℕ) (session : Transcript) (stage : TranscriptState) (reply : Option Reply) → slice_get (transcripts_in input) place ≡ Some session
    → ((transcript : Transcript) → IsTranscriptAt input place transcript → IsAt trace place transcript stage)
    → ((item : TranscriptItem) → IsCompared session stage → slice_get (rest_of session stage) 0 ≡ Some item → reply ≡ reply_taken item.doing) → IsNextReply input trace place reply
next_reply input trace place session stage reply at stands tells transcript item its next =
    let same : session ≡ transcript = some_is session transcript (sym at ∙ its.0) in
    let is_at : IsAt trace place session stage = subst (λ t. IsAt trace place t stage) (sym same) (stands transcript its) in
    tells item is_at.compared
    (ap (λ xs. slice_get xs 0) (sym is_at.rest) ∙ sym (next-rest (program_of session) (times (OfTranscript place) trace))
    ∙ ap (λ t. slice_get (program_of t) (times (OfTranscript place) trace)) same ∙ next)

-- two places of the same seat's first transcript are one
pub one_slot : (transcripts : List Transcript) (tenant seat a b : ℕ) → IsSlot transcripts tenant seat a → IsSlot transcripts tenant seat b → a ≡ b
one_slot transcripts tenant seat a b s t = elim (cases_lt a b) [
  | inl h ↦ absurd (t.first a s.transcript h s.there s.its)
  | inr h ↦ elim (cases_lt b a) [
    | inl k ↦ absurd (s.first b t.transcript k t.there t.its)
    | inr k ↦ omega (arith, h, k)
  ]
]

module _ (input : Input) (trace : Trace) (place : ℕ) (act : Act) (transcript : Transcript) (its : IsTranscriptAt input place transcript) where
  abbrev taken : TracedStep
  taken = record { origin = OfTranscript place; act = act }

  -- the item that is next is the first that the stage leaves
  pub first_left : (stage : TranscriptState) (item : TranscriptItem) → IsAt trace place transcript stage → IsNextItem trace place transcript item → slice_get (rest_of transcript stage) 0 ≡ Some item
  first_left stage item at next = ap (λ xs. slice_get xs 0) (sym at.rest) ∙ sym (next-rest (program_of transcript) (times (OfTranscript place) trace)) ∙ next

  pub transcript_agrees : (item : TranscriptItem) → IsNextItem trace place transcript item → AreAll (told_next input trace act) item.noted → Delivers (after input trace) act (reply_taken item.doing) → AgreesAt input trace (OfTranscript place) act
  transcript_agrees item next all takes other other_item also_its also_next =
      let same : transcript ≡ other = some_is transcript other (sym its.0 ∙ also_its.0) in
      let same_item : item ≡ other_item = some_is item other_item (sym next ∙ ap (λ t. slice_get (program_of t) (times (OfTranscript place) trace)) same ∙ also_next) in
      subst (AgreesWithItem input trace act) same_item (all, takes)

  pub transcript_agreed : (item : TranscriptItem) → IsNextItem trace place transcript item → AgreesAt input trace (OfTranscript place) act → AreAll (told_next input trace act) item.noted × Delivers (after input trace) act (reply_taken item.doing)
  transcript_agreed item next agrees = agrees transcript item its next

  -- the seat has a place
  pub has_slot : NoneOfSeat (transcripts_in input) input.tenant transcript.seat (length (transcripts_in input)) → ⊥
  has_slot none = none place transcript (slice_get_within (transcripts_in input) place transcript its.0) its.0 (its.1, refl)

  here : (is_origin (OfTranscript place) (OfTranscript place)) ≡ true
  here = eq-eqb place place refl

  advanced : (stage next : TranscriptState) (item : TranscriptItem) (answer : Answer) → IsAt trace place transcript stage → Advances transcript stage item answer next → IsAt (taken ∷ trace) place transcript next
  advanced stage next item answer at on = record {
    rest = ap (λ b. drop (cond b (times (OfTranscript place) trace + 1) (times (OfTranscript place) trace)) (program_of transcript)) here
        ∙ sym (drop-drop 1 (times (OfTranscript place) trace) (program_of transcript)) ∙ ap (drop 1) at.rest ∙ on.rest;
    compared = on.compared;
  }

  elsewhere : (k : ℕ) (other : Transcript) (stage : TranscriptState) → (place == k) ≡ false → IsAt trace k other stage → IsAt (taken ∷ trace) k other stage
  elsewhere k other stage apart at = record {
    rest = ap (λ b. drop (cond b (times (OfTranscript k) trace + 1) (times (OfTranscript k) trace)) (program_of other)) apart ∙ at.rest;
    compared = at.compared;
  }

  not_same : (k : ℕ) → (k ≡ place → ⊥) → (place == k) ≡ false
  not_same k apart = ne_eqb place k (λ e. apart (sym e))

  abbrev more_sent : Bool → List ℕ
  more_sent b = cond b (rows_sent (told_next input trace act)) []

  of_seat : (seat : ℕ) → is_seats_step input seat (OfTranscript place) ≡ (transcript.seat == seat)
  of_seat seat = ap (is_seat seat) its.0

  -- what was noted, with the rows that were sent
  pub transcript_noted : (old : Progress) (replay : Replay) (stages : Vec TranscriptState) (sent : Vec (Vec ℕ)) (stage next : TranscriptState) (item : TranscriptItem) (slot : ℕ)
      → IsNotedOf input trace old → Replays input (taken ∷ trace) replay → slice_get old.stages.items place ≡ Some stage → IsNextItem trace place transcript item
      → Advances transcript stage item (told_next input trace act) next → stages.items ≡ set old.stages.items place next
      → IsSlot (transcripts_in input) input.tenant transcript.seat slot → IsPushed old.sent.items sent.items slot (rows_sent (told_next input trace act))
      → IsNotedOf input (taken ∷ trace) (record { replay = replay; stages = stages; sent = sent; replies = old.replies; steps = old.steps })
  transcript_noted old replay stages sent stage next item slot noted replays at is_next on put slotted pushed = record {
    replays = replays;
    stages = λ k other other_stage its' there. elim (after_set old.stages.items place next k other_stage (slice_get_within old.stages.items place stage at) (ap (λ ss. slice_get ss k) (sym put) ∙ there)) [
      | inl h ↦
          let same : transcript ≡ other = some_is transcript other (sym its.0 ∙ ap (slice_get (transcripts_in input)) (sym h.0) ∙ its'.0) in
          subst (λ s. IsAt (taken ∷ trace) k other s) (sym h.1) (subst (λ j. IsAt (taken ∷ trace) j other next) (sym h.0) (subst (λ t. IsAt (taken ∷ trace) place t next) same
          (advanced stage next item (told_next input trace act) (noted.stages place transcript stage its at) on)))
      | inr h ↦ elsewhere k other other_stage (not_same k h.0) (noted.stages k other other_stage its' h.1)
    ];
    sent = λ seat k rows its' there. elim (cases_Bool (transcript.seat == seat)) [
      | inl h ↦
          let same : transcript.seat ≡ seat = eqb-true transcript.seat seat h in
          let one : k ≡ slot = one_slot (transcripts_in input) input.tenant seat k slot its' (subst (λ s. IsSlot (transcripts_in input) input.tenant s slot) same slotted) in
          let was = pushed.here rows (ap (slice_get sent.items) (sym one) ∙ there) in
          was.2 ∙ ap (λ items. items ++ rows_sent (told_next input trace act)) (noted.sent seat slot was.0 (subst (λ s. IsSlot (transcripts_in input) input.tenant s slot) same slotted) was.1)
          ∙ ap (λ b. call_rows input seat trace ++ more_sent b) (sym (of_seat seat ∙ h))
      | inr h ↦
          let apart : k ≢ slot = λ e. seat_apart seat slot h slotted (subst (λ j. IsSlot (transcripts_in input) input.tenant seat j) e its') in
          noted.sent seat k rows its' (sym (pushed.others k apart) ∙ there) ∙ sym (append-nil (call_rows input seat trace)) ∙ ap (λ b. call_rows input seat trace ++ more_sent b) (sym (of_seat seat ∙ h))
    ];
    replies = λ partition rows there. noted.replies partition rows there ∙ sym (append-nil (replies_sent input partition trace));
  }
    where
      seat_apart : (seat slot : ℕ) → (transcript.seat == seat) ≡ false → IsSlot (transcripts_in input) input.tenant transcript.seat slot → IsSlot (transcripts_in input) input.tenant seat slot → ⊥
      seat_apart seat slot h a b =
          let same : a.transcript ≡ b.transcript = some_is a.transcript b.transcript (sym a.there ∙ b.there) in
          let e : transcript.seat ≡ seat = sym a.its.1 ∙ ap (λ (t : Transcript). t.seat) same ∙ b.its.1 in
          let bad : true ≡ false = sym (eq-eqb transcript.seat seat e) ∙ h in cc

-- the transcript that was looked up is the one that gives the step
pub indexed : (input : Input) (trace : Trace) (place : ℕ) (act : Act) (transcript : Transcript) → slice_get (transcripts_in input) place ≡ Some transcript → MayTake input trace (OfTranscript place) act
    → (item : TranscriptItem) × IsTranscriptAt input place transcript × IsNextItem trace place transcript item
indexed input trace place act transcript at may =
    subst (λ t. (item : TranscriptItem) × IsTranscriptAt input place t × IsNextItem trace place t item) (some_is may.0 transcript (sym may.2.0 ∙ at)) (may.1, may.2, may.3)

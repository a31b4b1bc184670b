-- What may be taken next.
use Rattle.std.proofs.Common.{◌≡◌, ◌<◌, ◌≤◌, ℕ, zero, suc, List, [], ◌∷◌, ◌++◌, Bool, true, false, cond, nat_lt, ◌==◌, inl, inr, length, append-nil, drop, slice_get, Option, Some, None, refl, sym, ap, ◌∙◌, subst, arith}
use Rattle.std.proofs.lemmas.Bool.{eqb-true, ltb-true}
use Rattle.std.proofs.lemmas.List.{drop_all}
use Rattle.std.proofs.lemmas.Option.{slice_get_within}
use Rattle.closed_store.specs.declared.transcript.Transcript.{Transcript}
use Rattle.entry_list.specs.declared.kinds.Entry.{Entry}
use Rattle.entry_list.specs.declared.kinds.Entry.TheVariants.{Began, Took, Answered}
use Rattle.std.specs.Global.{Vec}
use Rattle.settle.specs.declared.progress.Progress.{Progress}
use Rattle.settle.specs.declared.progress.TranscriptState.{TranscriptState}
use Rattle.settle.specs.declared.progress.TranscriptState.TheVariants.{Waiting, Open, Over}
use Rattle.partition.specs.Events.{Event}
use Rattle.settle.proofs.Words.{some_is}
use Rattle.settle.specs.Words.{Act, Deliver}
use Rattle.settle.specs.Input.{Input, transcripts_in, events_of_journal, journal_of_closed}
use Rattle.settle.specs.Program.{items_of, program_of, at_place}
use Rattle.settle.specs.Trace.{Origin, OfTranscript, OfJournal, Trace, answered, times, is_seats_step, is_seat, rows_sent, call_rows}
use Rattle.settle.specs.Fronts.{IsTranscriptAt, IsNextEvent, IsUnsentAt, Brings, IsOver, MayTake, IsFront}
use Rattle.settle.specs.Standing.{rest_of, IsAt, IsSized, HasTakenSteps, NoneOfSeat, IsSlot}

-- a seat without a transcript sent no call
pub none_sent : (input : Input) (seat : ℕ) (trace : Trace) → IsFront input trace → NoneOfSeat (transcripts_in input) input.tenant seat (length (transcripts_in input)) → call_rows input seat trace ≡ []
none_sent input seat [] front none = refl
none_sent input seat (taken ∷ older) front none =
    ap (λ b. call_rows input seat older ++ cond b (rows_sent (answered input older taken)) []) (go taken.origin front.0)
    ∙ append-nil (call_rows input seat older) ∙ none_sent input seat older front.1 none
  where
    other : (i : ℕ) (transcript : Transcript) → IsTranscriptAt input i transcript → (b : Bool) → (transcript.seat == seat) ≡ b → b ≡ false
    other i transcript its true h = absurd (none i transcript (slice_get_within (transcripts_in input) i transcript its.0) its.0 (its.1, eqb-true transcript.seat seat h))
    other i transcript its false h = refl

    go : (o : Origin) → MayTake input older o taken.act → is_seats_step input seat o ≡ false
    go (OfTranscript i) may = ap (is_seat seat) may.2.0 ∙ other i may.0 may.2 (may.0.seat == seat) refl
    go (OfJournal p) may = refl

none_at : {X : Type 0} (n : ℕ) → at_place {X = X} [] n ≡ None
none_at zero = refl
none_at (suc n) = refl

pub some_none : (n : ℕ) → Some n ≡ None → ⊥
some_none n e = cc

listed : {X : Type 0} (xs : List X) (i : ℕ) → i < length xs → slice_get xs i ≡ None → ⊥
listed [] i within none = omega arith
listed (x ∷ xs) zero within none = let bad : Some x ≡ None = none in cc
listed (x ∷ xs) (suc i) within none = listed xs i (omega (arith, within)) none

-- the row of a seat's call
module _ (input : Input) (trace : Trace) (progress : Progress) (stands : HasTakenSteps input trace progress) (seat number : ℕ) where
  pub none_sent_at : NoneOfSeat (transcripts_in input) input.tenant seat (length (transcripts_in input)) → None ≡ at_place (call_rows input seat trace) number
  none_sent_at none = sym (none_at number) ∙ ap (λ rows. at_place rows number) (sym (none_sent input seat trace stands.front none))

  pub not_unlisted : (slot : ℕ) → IsSized input.closed progress → IsSlot (transcripts_in input) input.tenant seat slot → slice_get progress.sent.items slot ≡ None → ⊥
  not_unlisted slot sized its none = listed progress.sent.items slot (omega (arith, sized.sent, slice_get_within (transcripts_in input) slot its.transcript its.there)) none

  pub sent_at : (slot : ℕ) (rows : Vec ℕ) → IsSlot (transcripts_in input) input.tenant seat slot → slice_get progress.sent.items slot ≡ Some rows → at_place rows.items number ≡ at_place (call_rows input seat trace) number
  sent_at slot rows its at = ap (λ items. at_place items number) (stands.noted.sent seat slot rows its at)

-- the row of an event's call
pub row_for : (input : Input) (trace : Trace) (event : Event) (seat number : ℕ) (row : Option ℕ) → seat ≡ event.seat → number ≡ event.number → row ≡ at_place (call_rows input seat trace) number
    → row ≡ at_place (call_rows input event.seat trace) event.number
row_for input trace event seat number row of_seat of_number is =
    is ∙ ap (λ (s : ℕ). at_place (call_rows input s trace) number) of_seat ∙ ap (at_place (call_rows input event.seat trace)) of_number

-- ---- sessions that are over

nonempty : {X : Type 0} → List X → Type 0
nonempty [] = ⊥
nonempty (x ∷ xs) = Unit {0}

items_left : (entries : List Entry) → nonempty (items_of entries)
unfolding nonempty
items_left [] = tt
items_left (Began act ∷ entries) = tt
items_left (Took number partition place reply ∷ entries) = tt
items_left (Answered answer ∷ entries) = items_left entries

stage_left : (transcript : Transcript) (stage : TranscriptState) → (stage ≡ Over → ⊥) → nonempty (rest_of transcript stage)
unfolding nonempty
stage_left transcript Waiting apart = tt
stage_left transcript (Open read) apart = items_left (drop read transcript.entries.items)
stage_left transcript Over apart = absurd (apart refl)

drop-none : {X : Type 0} (xs : List X) (n : ℕ) → drop n xs ≡ [] → length xs ≤ n
drop-none [] n h = omega arith
drop-none (x ∷ xs) zero h = absurd (let bad : x ∷ xs ≡ [] = h in cc)
drop-none (x ∷ xs) (suc n) h = omega (arith, drop-none xs n h)

module _ (trace : Trace) (place : ℕ) (transcript : Transcript) (stage : TranscriptState) (at : IsAt trace place transcript stage) where
  pub over : stage ≡ Over → IsOver trace place transcript
  over is = drop-none (program_of transcript) (times (OfTranscript place) trace) (at.rest ∙ ap (rest_of transcript) is)

  pub not_over : (stage ≡ Over → ⊥) → IsOver trace place transcript → ⊥
  unfolding nonempty
  not_over apart is = subst nonempty (sym at.rest ∙ drop_all (times (OfTranscript place) trace) (program_of transcript) is) (stage_left transcript stage apart)

-- ---- what a journal gives

module _ (input : Input) (trace : Trace) (partition : ℕ) (event : Event) (next : IsNextEvent input trace partition event) (seat : event.seat ≡ 0 → ⊥) (act : Act) (may : MayTake input trace (OfJournal partition) act) where
  -- then the event's seat sent a call of its number
  pub was_sent : (row : ℕ) × (act ≡ Deliver row) × (at_place (call_rows input event.seat trace) event.number ≡ Some row)
  was_sent = go may.2
    where
      same : may.0 ≡ event
      same = some_is may.0 event (sym may.1 ∙ next)

      go : Brings input trace partition may.0 act → (row : ℕ) × (act ≡ Deliver row) × (at_place (call_rows input event.seat trace) event.number ≡ Some row)
      go (inl h) = absurd (seat (ap (λ (e : Event). e.seat) (sym same) ∙ h.0))
      go (inr h) = subst (λ (e : Event). (row : ℕ) × (act ≡ Deliver row) × (at_place (call_rows input e.seat trace) e.number ≡ Some row)) same h.1

  pub not_unknown : IsFront input trace → NoneOfSeat (transcripts_in input) input.tenant event.seat (length (transcripts_in input)) → ⊥
  not_unknown front none =
      let sent = was_sent in
      let bad : None ≡ Some sent.0 = sym (none_at event.number) ∙ ap (λ rows. at_place rows event.number) (sym (none_sent input event.seat trace front none)) ∙ sent.2 in
      cc

pub past : {X : Type 0} (xs : List X) (n : ℕ) → ((x : X) → slice_get xs n ≡ Some x → ⊥) → length xs ≤ n
past [] n none = omega arith
past (x ∷ xs) zero none = absurd (none x refl)
past (x ∷ xs) (suc n) none = omega (arith, past xs n none)

-- a partition that is not there has no event that was not sent
pub none_past : (input : Input) (trace : Trace) (partition : ℕ) → ((k : ℕ) → k < input.closed.config.parts → IsUnsentAt input trace k → ⊥) → IsUnsentAt input trace partition → ⊥
none_past input trace partition within at = go (nat_lt partition input.closed.config.parts) refl
  where
    go : (b : Bool) → nat_lt partition input.closed.config.parts ≡ b → ⊥
    go true h = within partition (ltb-true partition input.closed.config.parts h) at
    go false h =
        let bad : None ≡ Some at.event = ap (λ b. slice_get (cond b (events_of_journal (journal_of_closed input.closed input.tenant partition)) []) (times (OfJournal partition) trace)) (sym h) ∙ at.next in
        cc

-- one that is next is the only one
pub sent_there : (input : Input) (trace : Trace) (partition : ℕ) (event : Event) → IsNextEvent input trace partition event → (at : IsUnsentAt input trace partition) → at.event ≡ event
sent_there input trace partition event next at = some_is at.event event (sym at.next ∙ next)

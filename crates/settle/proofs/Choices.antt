-- What a transcript gives next.
use Rattle.std.proofs.lemmas.Bool.{cases_lt, ltb-true}
use Rattle.std.proofs.lemmas.Option.{slice_get_within}
use Rattle.settle.specs.declared.next_step.Next.{Next}
use Rattle.std.proofs.Common.{length, inl, inr, arith, ◌+◌, ◌≤◌, Bool, true, false, cond, nat_lt, ◌≡◌, ℕ, List, [], ◌∷◌, drop, slice_get, Some, None, Option, refl, sym, ap, ◌∙◌, subst}
use Rattle.settle.specs.declared.next_step.Source.{Source}
use Rattle.closed_store.specs.declared.transcript.Transcript.{Transcript}
use Rattle.entry_list.specs.declared.kinds.Entry.{Entry}
use Rattle.entry_list.specs.declared.kinds.Entry.TheVariants.{Began, Took, Answered}
use Rattle.settle.specs.declared.progress.TranscriptState.{TranscriptState}
use Rattle.settle.specs.declared.progress.TranscriptState.TheVariants.{Waiting, Open, Over}
use Rattle.settle.specs.Words.{Act, Ready}
use Rattle.settle.specs.Input.{Input, transcripts_in, events_of_partition, events_of_journal, journal_of_closed}
use Rattle.settle.specs.Program.{Greets, Begins, Takes, Leaves, TranscriptItem, noted, items_of, program_of, at_place}
use Rattle.settle.specs.Trace.{Origin, OfTranscript, OfJournal, Trace, times, replies_sent}
use Rattle.settle.specs.Fronts.{IsTranscriptAt, IsNextItem, Gives, IsEventOf, MayTake, NoneIsFree}
use Rattle.settle.specs.Standing.{origin_of, rest_of, IsAt, Chooses, GivesNow, RepliesNow, NoneOfFirst, NoneBetween, IsChoice, IsChoiceOf, IsChoiceBetween}
use Rattle.settle.proofs.Words.{some_is}
use Rattle.settle.proofs.Transcripts.{next-rest}

-- an entry list always gives something
first_item : (entries : List Entry) → (item : TranscriptItem) × (slice_get (items_of entries) 0 ≡ Some item)
first_item [] = (record { doing = Leaves; noted = [] }, refl)
first_item (Began act ∷ entries) = (record { doing = Begins act; noted = noted entries }, refl)
first_item (Took number partition place reply ∷ entries) = (record { doing = Takes number partition place reply; noted = noted entries }, refl)
first_item (Answered answer ∷ entries) = first_item entries

pub open_item : (transcript : Transcript) (stage : TranscriptState) (read : ℕ) → stage ≡ Open read → (item : TranscriptItem) × (slice_get (rest_of transcript stage) 0 ≡ Some item) × (slice_get (rest_of transcript (Open read)) 0 ≡ Some item)
open_item transcript stage read is =
    let first = first_item (drop read transcript.entries.items) in
    (first.0, ap (λ s. slice_get (rest_of transcript s) 0) is ∙ first.1, first.1)

module _ (input : Input) (trace : Trace) (place : ℕ) (transcript : Transcript) (its : IsTranscriptAt input place transcript) (stage : TranscriptState) (at : IsAt trace place transcript stage) where
  left_next : (item : TranscriptItem) → slice_get (rest_of transcript stage) 0 ≡ Some item → IsNextItem trace place transcript item
  left_next item left = next-rest (program_of transcript) (times (OfTranscript place) trace) ∙ ap (λ xs. slice_get xs 0) at.rest ∙ left

  gives_same : (item : TranscriptItem) → slice_get (rest_of transcript stage) 0 ≡ Some item → (act : Act) → MayTake input trace (OfTranscript place) act → Gives input trace place transcript item.doing act
  gives_same item left act may =
      let same : may.0 ≡ transcript = some_is may.0 transcript (sym may.2.0 ∙ its.0) in
      let same_item : may.1 ≡ item = some_is may.1 item (sym may.3 ∙ ap (λ t. slice_get (program_of t) (times (OfTranscript place) trace)) same ∙ left_next item left) in
      subst (λ t. Gives input trace place t item.doing act) same (subst (λ (i : TranscriptItem). Gives input trace place may.0 i.doing act) same_item may.4)

  pub chooses_by : (item : TranscriptItem) → slice_get (rest_of transcript stage) 0 ≡ Some item → (o : Option Next) → GivesNow input trace place transcript item.doing o → Chooses input trace (OfTranscript place) o
  chooses_by item left None none = λ act may. none act (gives_same item left act may)
  chooses_by item left (Some next) gives =
      let P : Source → Type 0 = λ s. MayTake input trace (origin_of s) next.act in
      subst P (sym gives.0) (transcript, item, its, left_next item left, gives.1)

  pub chooses_greeting : stage ≡ Waiting → (o : Option Next) → GivesNow input trace place transcript Greets o → Chooses input trace (OfTranscript place) o
  chooses_greeting is o gives =
      chooses_by (record { doing = Greets; noted = Ready transcript.counter ∷ noted transcript.entries.items }) (ap (λ s. slice_get (rest_of transcript s) 0) is) o gives

  pub chooses_nothing : stage ≡ Over → (act : Act) → MayTake input trace (OfTranscript place) act → ⊥
  chooses_nothing is act may =
      let same : may.0 ≡ transcript = some_is may.0 transcript (sym may.2.0 ∙ its.0) in
      let bad : None ≡ Some may.1 = sym (next-rest (program_of transcript) (times (OfTranscript place) trace) ∙ ap (λ xs. slice_get xs 0) (at.rest ∙ ap (rest_of transcript) is)) ∙ ap (λ t. slice_get (program_of t) (times (OfTranscript place) trace)) (sym same) ∙ may.3 in
      cc

-- ---- all origins

pub none_more : (input : Input) (trace : Trace) (origin : ℕ → Origin) (n : ℕ) → NoneOfFirst input trace origin n → ((act : Act) → MayTake input trace (origin n) act → ⊥) → NoneOfFirst input trace origin (n + 1)
none_more input trace origin n first here k within act may = elim (cases_lt k n) [
  | inl h ↦ first k h act may
  | inr h ↦ let same : k ≡ n = omega (arith, h, within) in here act (subst (λ j. MayTake input trace (origin j) act) same may)
]

pub none_chosen : (input : Input) (trace : Trace) (origin : Origin) (o : Option Next) → o ≡ None → Chooses input trace origin o → (act : Act) → MayTake input trace origin act → ⊥
none_chosen input trace origin o is chooses = subst (Chooses input trace origin) is chooses

-- a transcript or a partition that is not there gives nothing
pub none_free : (input : Input) (trace : Trace) → NoneOfFirst input trace OfTranscript (length (transcripts_in input)) → NoneOfFirst input trace OfJournal input.closed.config.parts → NoneIsFree input trace
none_free input trace transcripts journals taken = go taken.origin
  where
    partition : (p : ℕ) → MayTake input trace (OfJournal p) taken.act → (b : Bool) → nat_lt p input.closed.config.parts ≡ b → ⊥
    partition p may true h = journals p (ltb-true p input.closed.config.parts h) taken.act may
    partition p may false h = let bad : None ≡ Some may.0 = ap (λ b. slice_get (cond b (events_of_journal (journal_of_closed input.closed input.tenant p)) []) (times (OfJournal p) trace)) (sym h) ∙ may.1 in cc

    go : (o : Origin) → MayTake input trace o taken.act → ⊥
    go (OfTranscript i) may = transcripts i (slice_get_within (transcripts_in input) i may.0 may.2.0) taken.act may
    go (OfJournal p) may = partition p may (nat_lt p input.closed.config.parts) refl

pub choice_of : (input : Input) (trace : Trace) (o : Option Next) → NoneOfFirst input trace OfJournal input.closed.config.parts → IsChoiceOf input trace OfTranscript (length (transcripts_in input)) o → IsChoice input trace o
choice_of input trace None journals transcripts = none_free input trace transcripts journals
choice_of input trace (Some next) journals transcripts = transcripts

pub none_more_between : (input : Input) (trace : Trace) (first n : ℕ) → NoneBetween input trace first n → ((act : Act) → MayTake input trace (OfTranscript n) act → ⊥) → NoneBetween input trace first (n + 1)
none_more_between input trace first n before here k from within act may = elim (cases_lt k n) [
  | inl h ↦ before k from h act may
  | inr h ↦ let same : k ≡ n = omega (arith, h, within) in here act (subst (λ j. MayTake input trace (OfTranscript j) act) same may)
]

-- the places from the middle on, and those in front of it, are all
pub choice_around : (input : Input) (trace : Trace) (middle count all : ℕ) (first second : Option Next) → all ≤ count → first ≡ None → IsChoiceBetween input trace middle count first → IsChoiceBetween input trace 0 middle second
    → IsChoiceOf input trace OfTranscript all second
choice_around input trace middle count all first None within is after before =
    let none : NoneBetween input trace middle count = subst (IsChoiceBetween input trace middle count) is after in
    λ k below act may. elim (cases_lt k middle) [
      | inl h ↦ before k (omega arith) h act may
      | inr h ↦ none k h (omega (arith, below, within)) act may
    ]
choice_around input trace middle count all first (Some next) within is after before = before

-- ---- replies

-- the row of a reply that has come is the one that was noted
pub replies_by : (input : Input) (trace : Trace) (seat number partition place : ℕ) (row : Option ℕ) → IsEventOf (events_of_partition input partition) seat number place
    → row ≡ at_place (replies_sent input partition trace) place → RepliesNow input trace seat number partition place row
replies_by input trace seat number partition place None event is = λ r replies. let bad : None ≡ Some r = is ∙ replies.1 in cc
replies_by input trace seat number partition place (Some r) event is = (event, sym is)

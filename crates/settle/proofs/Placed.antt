-- Where the steps of an origin stand.
use Rattle.std.proofs.Common.{◌≡◌, ◌<◌, ◌≤◌, ◌+◌, ℕ, [], ◌∷◌, ◌++◌, Bool, true, false, cond, inl, inr, length, slice_get, Some, refl, sym, ap, ◌∙◌, subst, arith}
use Rattle.std.proofs.lemmas.Bool.{cases_lt, eqb-true}
use Rattle.std.proofs.lemmas.Option.{slice_get_within}
use Rattle.partition.specs.Events.{Event}
use Rattle.closed_store.specs.declared.transcript.Transcript.{Transcript}
use Rattle.settle.specs.Words.{Act}
use Rattle.settle.specs.Input.{Input, events_of_partition}
use Rattle.settle.specs.Program.{TranscriptItem, program_of}
use Rattle.settle.specs.Trace.{Origin, OfTranscript, OfJournal, TracedStep, Trace, is_origin, times}
use Rattle.settle.specs.Fronts.{IsTranscriptAt, Gives, Brings, MayTake, AgreesAt, IsFront, AllAgree, TakesAll}
use Rattle.settle.specs.Verdict.{IsProgramOf, IsJournalOf}
use Rattle.settle.proofs.Words.{some_is}
use Rattle.settle.proofs.Transcripts.{indexed}

-- a step of the origin, after so many of its own
record Stood (input : Input) (trace : Trace) (origin : Origin) (n : ℕ) : Type 0 where
  newer : Trace
  act : Act
  older : Trace
  stands : trace ≡ newer ++ record { origin = origin; act = act } ∷ older
  before : times origin older ≡ n
  may : MayTake input older origin act
  agrees : AgreesAt input older origin act

same_origin : (a b : Origin) → is_origin a b ≡ true → a ≡ b
same_origin (OfTranscript i) (OfTranscript j) h = ap OfTranscript (eqb-true i j h)
same_origin (OfJournal p) (OfJournal q) h = ap OfJournal (eqb-true p q h)
same_origin (OfTranscript i) (OfJournal q) h = absurd (let bad : false ≡ true = h in cc)
same_origin (OfJournal p) (OfTranscript j) h = absurd (let bad : false ≡ true = h in cc)

module _ (input : Input) (taken : TracedStep) (older : Trace) (origin : Origin) where
  module _ (n : ℕ) (front : IsFront input (taken ∷ older)) (agree : AllAgree input (taken ∷ older)) (rest : n < times origin older → Stood input older origin n) where
    further : n < times origin older → Stood input (taken ∷ older) origin n
    further h =
        let s = rest h in
        record { newer = taken ∷ s.newer; act = s.act; older = s.older; stands = ap (λ t. taken ∷ t) s.stands; before = s.before; may = s.may; agrees = s.agrees }

    last : is_origin taken.origin origin ≡ true → times origin older ≡ n → Stood input (taken ∷ older) origin n
    last same at =
        let is : taken.origin ≡ origin = same_origin taken.origin origin same in
        record {
          newer = [];
          act = taken.act;
          older = older;
          stands = ap (λ (o : Origin). record { origin = o; act = taken.act } ∷ older) is;
          before = at;
          may = subst (λ o. MayTake input older o taken.act) is front.0;
          agrees = subst (λ o. AgreesAt input older o taken.act) is agree.0;
        }

    stood_here : (b : Bool) → is_origin taken.origin origin ≡ b → n < cond b (times origin older + 1) (times origin older) → Stood input (taken ∷ older) origin n
    stood_here true same h = elim (cases_lt n (times origin older)) [
      | inl g ↦ further g
      | inr g ↦ last same (omega (arith, h, g))
    ]
    stood_here false same h = further h

  bounded : (bound : ℕ) (b : Bool) → is_origin taken.origin origin ≡ b → MayTake input older taken.origin taken.act → ((act : Act) → MayTake input older origin act → times origin older < bound)
      → times origin older ≤ bound → cond b (times origin older + 1) (times origin older) ≤ bound
  bounded bound true same may each less =
      let g : times origin older < bound = each taken.act (subst (λ o. MayTake input older o taken.act) (same_origin taken.origin origin same) may) in omega (arith, g)
  bounded bound false same may each less = less

stood : (input : Input) (trace : Trace) (origin : Origin) (n : ℕ) → IsFront input trace → AllAgree input trace → n < times origin trace → Stood input trace origin n
stood input [] origin n front agree h = absurd (omega (arith, h))
stood input (taken ∷ older) origin n front agree h = stood_here input taken older origin n front agree (stood input older origin n front.1 agree.1) (is_origin taken.origin origin) refl h

times_within : (input : Input) (trace : Trace) (origin : Origin) (bound : ℕ) → IsFront input trace → ((older : Trace) (act : Act) → MayTake input older origin act → times origin older < bound) → times origin trace ≤ bound
times_within input [] origin bound front each = omega arith
times_within input (taken ∷ older) origin bound front each =
    bounded input taken older origin bound (is_origin taken.origin origin) refl front.0 (each older) (times_within input older origin bound front.1 each)

-- ---- transcripts

gives_item : (input : Input) (older : Trace) (place : ℕ) (transcript : Transcript) (n : ℕ) (item : TranscriptItem) (act : Act) → times (OfTranscript place) older ≡ n → IsTranscriptAt input place transcript
    → slice_get (program_of transcript) n ≡ Some item → MayTake input older (OfTranscript place) act → Gives input older place transcript item.doing act
gives_item input older place transcript n item act before its at may =
    let same : may.0 ≡ transcript = some_is may.0 transcript (sym may.2.0 ∙ its.0) in
    let same_item : may.1 ≡ item = some_is may.1 item (sym may.3 ∙ ap (λ t. slice_get (program_of t) (times (OfTranscript place) older)) same ∙ ap (slice_get (program_of transcript)) before ∙ at) in
    subst (λ t. Gives input older place t item.doing act) same (subst (λ (i : TranscriptItem). Gives input older place may.0 i.doing act) same_item may.4)

pub is_program_of : (input : Input) (trace : Trace) (place : ℕ) (transcript : Transcript) → IsFront input trace → AllAgree input trace → TakesAll input trace → IsTranscriptAt input place transcript → IsProgramOf input trace place transcript
is_program_of input trace place transcript front agree whole its =
    let most : times (OfTranscript place) trace ≤ length (program_of transcript) = times_within input trace (OfTranscript place) (length (program_of transcript)) front within in
    let least : length (program_of transcript) ≤ times (OfTranscript place) trace = whole.transcripts place transcript its in
    record {
      count = omega (arith, most, least);
      each = λ n item at.
          let inside : n < length (program_of transcript) = slice_get_within (program_of transcript) n item at in
          let s = stood input trace (OfTranscript place) n front agree (omega (arith, inside, least)) in
          record {
            newer = s.newer;
            act = s.act;
            older = s.older;
            stands = s.stands;
            before = s.before;
            gives = gives_item input s.older place transcript n item s.act s.before its at s.may;
            agrees = s.agrees transcript item its (ap (slice_get (program_of transcript)) s.before ∙ at);
          };
    }
  where
    within : (older : Trace) (act : Act) → MayTake input older (OfTranscript place) act → times (OfTranscript place) older < length (program_of transcript)
    within older act may =
        let i = indexed input older place act transcript its.0 may in
        slice_get_within (program_of transcript) (times (OfTranscript place) older) i.0 i.2

-- ---- journals

brings_event : (input : Input) (older : Trace) (partition n : ℕ) (event : Event) (act : Act) → times (OfJournal partition) older ≡ n → slice_get (events_of_partition input partition) n ≡ Some event
    → MayTake input older (OfJournal partition) act → Brings input older partition event act
brings_event input older partition n event act before at may =
    let same : may.0 ≡ event = some_is may.0 event (sym may.1 ∙ ap (slice_get (events_of_partition input partition)) before ∙ at) in
    subst (λ e. Brings input older partition e act) same may.2

pub journal_of : (input : Input) (trace : Trace) (partition : ℕ) → IsFront input trace → AllAgree input trace → TakesAll input trace → IsJournalOf input trace partition
journal_of input trace partition front agree whole =
    let most : times (OfJournal partition) trace ≤ length (events_of_partition input partition) =
    times_within input trace (OfJournal partition) (length (events_of_partition input partition)) front (λ older act may. slice_get_within (events_of_partition input partition) (times (OfJournal partition) older) may.0 may.1) in
    let least : length (events_of_partition input partition) ≤ times (OfJournal partition) trace = whole.journals partition in
    record {
      count = omega (arith, most, least);
      each = λ n event at.
          let inside : n < length (events_of_partition input partition) = slice_get_within (events_of_partition input partition) n event at in
          let s = stood input trace (OfJournal partition) n front agree (omega (arith, inside, least)) in
          record {
            newer = s.newer;
            act = s.act;
            older = s.older;
            stands = s.stands;
            before = s.before;
            brings = brings_event input s.older partition n event s.act s.before at s.may;
            agrees = s.agrees event (ap (slice_get (events_of_partition input partition)) s.before ∙ at);
          };
    }

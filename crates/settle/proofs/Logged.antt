-- Each partition's log is its journal.
use Rattle.std.proofs.Common.{◌≡◌, ◌+◌, ℕ, zero, suc, List, [], ◌∷◌, ◌++◌, Bool, true, false, cond, ◌==◌, map, reverse, take, slice_get, Option, Some, None, refl, sym, ap, ◌∙◌, subst, arith}
use Rattle.std.specs.Prelude.{All}
use Rattle.std.proofs.lemmas.List.{map-append, reverse-append}
use Rattle.std.proofs.lemmas.Bool.{eqb-true, eq-eqb}
use Rattle.world.proofs.Results.{take_got, whole}
use Rattle.plain_store.specs.Words.{IsAct}
use Rattle.plain_store.specs.Log.{Exchange, Log}
use Rattle.plain_store.specs.History.{log_at}
use Rattle.partition.specs.Events.{Event}
use Rattle.closed_store.specs.declared.transcript.Transcript.{Transcript}
use Rattle.settle.specs.Words.{Act, Hello, Put, GetAll, Find, SetKeep, Step, Stop}
use Rattle.settle.specs.Input.{Input, setup_for, events_of_partition}
use Rattle.settle.specs.Program.{Doing, Greets, Begins, Takes, Leaves, reply_taken}
use Rattle.settle.specs.Trace.{Origin, OfTranscript, OfJournal, Trace, after, ready, told_next, answered, keep_before, and_keep, acts_of, acts_before, is_origin, times}
use Rattle.settle.specs.Fronts.{Gives, IsRequest, MayTake, AgreesAt, Delivers, IsFront, AllAgree, TakesAll}
use Rattle.settle.specs.Replaying.{step_of, steps_of}
use Rattle.settle.specs.Verdict.{LogsAreJournals}
use Rattle.settle.proofs.Replayed.{steps-push, all_last}
use Rattle.settle.proofs.Served.{exchange, added, adds, cancel, delivered_quiet, added_once}

-- ---- every act is a valid one

abbrev AllActs : Trace → Type 0
AllActs [] = Unit {0}
AllActs (taken ∷ older) = IsAct taken.act × AllActs older

abbrev pub IsValid : Step → Type 0
IsValid step = IsAct step.act

all_front : (xs : List Step) (y : Step) → All IsValid (xs ++ y ∷ []) → All IsValid xs
all_front [] y all k d h = absurd (omega (arith, h))
all_front (x ∷ xs) y all zero d h = all zero d (omega arith)
all_front (x ∷ xs) y all (suc k) d h = all_front xs y (λ j e g. all (suc j) e (omega (arith, g))) k d (omega (arith, h))

and_keep_valid : (acts : List Act) (keep : Option ℕ) → All IsValid (steps_of (and_keep acts keep)) → All IsValid (steps_of acts)
and_keep_valid acts None all = all
and_keep_valid acts (Some keep) all = all_front (steps_of acts) (step_of 0 (SetKeep keep)) (subst (All IsValid) (steps-push acts (SetKeep keep)) all)

acts_valid : (input : Input) (trace : Trace) → All IsValid (steps_of (acts_of input trace)) → AllActs trace
acts_valid input [] all = tt
acts_valid input (taken ∷ older) all =
    let before : List Act = acts_before input older taken.origin in
    let split : All IsValid (steps_of before ++ step_of 0 taken.act ∷ []) = subst (All IsValid) (steps-push before taken.act) all in (
      all_last (steps_of before) (step_of 0 taken.act) split,
      acts_valid input older (and_keep_valid (acts_of input older) (keep_before input older taken.origin) (all_front (steps_of before) (step_of 0 taken.act) split)),
    )

-- ---- a transcript's step adds to no log

module _ (input : Input) (older : Trace) (partition : ℕ) where
  abbrev Adds : Act → Type 0
  Adds act = added (setup_for input) (after input older) partition act (told_next input older act) ≡ []

  request_quiet : (client : ℕ) (act : Act) → IsRequest client act → Adds act
  request_quiet client (Put c items) is = refl
  request_quiet client (GetAll c keys) is = refl
  request_quiet client (Find c tag) is = refl
  request_quiet client (Stop c) is = refl
  request_quiet client (Hello c base) is = refl
  request_quiet client act is = absurd is

  doing_quiet : (place : ℕ) (transcript : Transcript) (doing : Doing) (act : Act) → Gives input older place transcript doing act → Delivers (after input older) act (reply_taken doing) → Adds act
  doing_quiet place transcript Greets act gives takes = subst Adds (sym gives.0) refl
  doing_quiet place transcript (Begins begun) act gives takes = subst Adds (sym gives.0) (request_quiet transcript.client begun gives.1)
  doing_quiet place transcript (Takes number served event_place reply) act gives takes =
      subst Adds (sym gives.1) (delivered_quiet input older gives.0 partition reply (subst (λ a. Delivers (after input older) a (Some reply)) gives.1 takes))
  doing_quiet place transcript Leaves act gives takes = subst Adds (sym gives) refl

  pub transcript_quiet : (place : ℕ) (act : Act) → MayTake input older (OfTranscript place) act → AgreesAt input older (OfTranscript place) act → Adds act
  transcript_quiet place act may agrees = doing_quiet place may.0 may.1.doing act may.4 (agrees may.0 may.1 may.2 may.3).1

-- ---- the log so far is the journal so far

abbrev exchange_of : Event → Exchange
exchange_of event = exchange event.call event.reply

abbrev so_far : Input → Trace → ℕ → List Exchange
so_far input trace partition = map exchange_of (take (times (OfJournal partition) trace) (events_of_partition input partition))

abbrev log : Input → Trace → ℕ → Log
log input trace partition = log_at (setup_for input) (after input trace) partition

module _ (input : Input) (older : Trace) (partition : ℕ) (before : reverse (log input older partition) ≡ so_far input older partition) where
  same_log : (origin : Origin) (act : Act) → IsAct act → is_origin origin (OfJournal partition) ≡ false → added (setup_for input) (ready input older origin) partition act (answered input older (record { origin = origin; act = act })) ≡ []
      → reverse (log input (record { origin = origin; act = act } ∷ older) partition) ≡ so_far input (record { origin = origin; act = act } ∷ older) partition
  same_log origin act valid other none =
      ap reverse (adds input older (record { origin = origin; act = act }) partition valid ∙ ap (λ es. es ++ log input older partition) none) ∙ before
      ∙ ap (λ b. map exchange_of (take (cond b (times (OfJournal partition) older + 1) (times (OfJournal partition) older)) (events_of_partition input partition))) (sym other)

  more_log : (act : Act) (event : Event) → slice_get (events_of_partition input partition) (times (OfJournal partition) older) ≡ Some event
      → log input (record { origin = OfJournal partition; act = act } ∷ older) partition ≡ exchange_of event ∷ log input older partition
      → reverse (log input (record { origin = OfJournal partition; act = act } ∷ older) partition) ≡ so_far input (record { origin = OfJournal partition; act = act } ∷ older) partition
  more_log act event next agrees =
      let n = times (OfJournal partition) older in
      ap reverse agrees ∙ reverse-append (exchange_of event ∷ []) (log input older partition) ∙ ap (λ es. es ++ exchange_of event ∷ []) before
      ∙ sym (map-append exchange_of (take n (events_of_partition input partition)) (event ∷ []))
      ∙ ap (map exchange_of) (sym (take_got (events_of_partition input partition) n event next))
      ∙ ap (λ b. map exchange_of (take (cond b (n + 1) n) (events_of_partition input partition))) (sym (eq-eqb partition partition refl))

  step_logged : (origin : Origin) (act : Act) → IsAct act → MayTake input older origin act → AgreesAt input older origin act
      → reverse (log input (record { origin = origin; act = act } ∷ older) partition) ≡ so_far input (record { origin = origin; act = act } ∷ older) partition
  step_logged (OfTranscript place) act valid may agrees = same_log (OfTranscript place) act valid refl (transcript_quiet input older partition place act may agrees)
  step_logged (OfJournal q) act valid may agrees = go (q == partition) refl
    where
      grown : log input (record { origin = OfJournal q; act = act } ∷ older) q ≡ exchange_of may.0 ∷ log input older q
      grown = agrees may.0 may.1

      at_q : added (setup_for input) (ready input older (OfJournal q)) q act (answered input older (record { origin = OfJournal q; act = act })) ≡ exchange_of may.0 ∷ []
      at_q = cancel (added (setup_for input) (ready input older (OfJournal q)) q act (answered input older (record { origin = OfJournal q; act = act }))) (log input older q) (exchange_of may.0) (sym (adds input older (record { origin = OfJournal q; act = act }) q valid) ∙ grown)

      Logged : ℕ → Type 0
      Logged p = reverse (log input (record { origin = OfJournal p; act = act } ∷ older) partition) ≡ so_far input (record { origin = OfJournal p; act = act } ∷ older) partition

      go : (b : Bool) → (q == partition) ≡ b → reverse (log input (record { origin = OfJournal q; act = act } ∷ older) partition) ≡ so_far input (record { origin = OfJournal q; act = act } ∷ older) partition
      go true h =
          let same : q ≡ partition = eqb-true q partition h in
          subst (λ p. reverse (log input (record { origin = OfJournal p; act = act } ∷ older) partition) ≡ so_far input (record { origin = OfJournal p; act = act } ∷ older) partition) (sym same)
          (more_log act may.0 (subst (λ p. slice_get (events_of_partition input p) (times (OfJournal p) older) ≡ Some may.0) same may.1)
          (subst (λ p. log input (record { origin = OfJournal p; act = act } ∷ older) p ≡ exchange_of may.0 ∷ log input older p) same grown))
      go false h = same_log (OfJournal q) act valid h (added_once (setup_for input) (ready input older (OfJournal q)) partition q (exchange_of may.0) act (answered input older (record { origin = OfJournal q; act = act })) (λ e. apart e h) at_q)
        where
          apart : q ≡ partition → (q == partition) ≡ false → ⊥
          apart e h = let bad : true ≡ false = sym (eq-eqb q partition e) ∙ h in cc

logged : (input : Input) (trace : Trace) (partition : ℕ) → IsFront input trace → AllAgree input trace → AllActs trace → reverse (log input trace partition) ≡ so_far input trace partition
logged input [] partition front agree valid = refl
logged input (taken ∷ older) partition front agree valid =
    step_logged input older partition (logged input older partition front.1 agree.1 valid.1) taken.origin taken.act valid.0 front.0 agree.0

-- so they are, whatever the tenant's number
pub renumbered : (a b : ℕ) (acts : List Act) → All IsValid (map (step_of a) acts) → All IsValid (map (step_of b) acts)
renumbered a b [] all k d h = absurd (omega (arith, h))
renumbered a b (act ∷ acts) all zero d h = all zero (step_of a act) (omega arith)
renumbered a b (act ∷ acts) all (suc k) d h = renumbered a b acts (λ j e g. all (suc j) e (omega (arith, g))) k d (omega (arith, h))

pub logs_are_journals : (input : Input) (trace : Trace) → IsFront input trace → AllAgree input trace → All IsValid (steps_of (acts_of input trace)) → TakesAll input trace → LogsAreJournals input trace
logs_are_journals input trace front agree valid is_whole partition =
    logged input trace partition front agree (acts_valid input trace valid) ∙ ap (map exchange_of) (whole (events_of_partition input partition) (times (OfJournal partition) trace) (is_whole.journals partition))

-- The verdict where no step may be taken next.
use Rattle.std.proofs.Common.{ℕ, ◌≡◌, Bool, sym, subst, inr, Option, Some}
use Rattle.stamps.specs.declared.bounds.Limits.{Limits}
use Rattle.closed_store.specs.declared.closed.Closed.{Closed}
use Rattle.settle.specs.declared.step_fault.StepFault.{StepFault}
use Rattle.settle.specs.declared.step_fault.StepFault.TheVariants.{Mismatch, Lost, OutOfMemory}
use Rattle.settle.specs.declared.next_step.Next.{Next}
use Rattle.settle.specs.Words.{Act}
use Rattle.settle.specs.declared.progress.Progress.{Progress}
use Rattle.settle.specs.Input.{Input, input_of}
use Rattle.settle.specs.Trace.{Origin, Trace}
use Rattle.settle.specs.Fronts.{NoneIsFree, TakesAll, IsFront, MayTake, IsUnsentAt}
use Rattle.settle.specs.Standing.{HasTakenSteps, FaultsAt, IsChoice, origin_of, IsNextStep}
use Rattle.std.specs.Prelude.{All}
use Rattle.settle.specs.Trace.{acts_of}
use Rattle.settle.specs.Replaying.{steps_of}
use Rattle.settle.proofs.Logged.{IsValid, renumbered, logs_are_journals}
use Rattle.settle.proofs.Placed.{is_program_of, journal_of}
use Rattle.settle.specs.Verdict.{Settles, HasJournals, IsStuck, IsUnsent, ended_by, ComesTo}

pub settled : (input : Input) (trace : Trace) (progress : Progress) → HasJournals input.closed input.tenant input.limits → HasTakenSteps input trace progress → TakesAll input trace → Settles input progress.steps.items
settled input trace progress journals stands whole =
    let valid : All IsValid (steps_of (acts_of input trace)) = stands.noted.replays.valid in
    record {
      journals = journals;
      trace = trace;
      is = stands.steps;
      front = stands.front;
      agree = stands.agree;
      whole = whole;
      programs = λ place transcript its. is_program_of input trace place transcript stands.front stands.agree whole its;
      events = λ partition. journal_of input trace partition stands.front stands.agree whole;
      logs = logs_are_journals input trace stands.front stands.agree valid whole;
      clients = subst (All IsValid) (sym stands.steps) (renumbered 0 input.tenant (acts_of input trace) valid);
    }

pub stuck : (input : Input) (trace : Trace) (progress : Progress) → HasTakenSteps input trace progress → NoneIsFree input trace → (TakesAll input trace → ⊥)
    → ((partition : ℕ) → IsUnsentAt input trace partition → ⊥) → IsStuck input
stuck input trace progress stands none left sent = record { trace = trace; front = stands.front; left = left; none = none; sent = sent }

-- a step that was not taken comes to a fault that shows in what was left, or to no list where messages are lost
come_to : (closed : Closed) (tenant : ℕ) (limits : Limits) (trace : Trace) (origin : Origin) (act : Act) (loses : Bool) (fault : StepFault) → IsFront (input_of closed tenant limits) trace
    → MayTake (input_of closed tenant limits) trace origin act → FaultsAt (input_of closed tenant limits) trace origin act loses fault
    → ComesTo closed tenant limits loses (ended_by fault)
come_to closed tenant limits trace origin act loses Mismatch front may faults = (inr (record { older = trace; last = record { origin = origin; act = act }; front = front; free = may; differs = faults }), tt)
come_to closed tenant limits trace origin act loses Lost front may faults = (tt, faults)
come_to closed tenant limits trace origin act loses OutOfMemory front may faults = (tt, tt)

pub comes_to : (closed : Closed) (tenant : ℕ) (limits own : Limits) (trace : Trace) (progress : Progress) (loses : Bool) (chosen : Option Next) (next : Next) (fault : StepFault) → own ≡ limits → progress.replay.loses ≡ loses
    → HasTakenSteps (input_of closed tenant own) trace progress → IsChoice (input_of closed tenant own) trace chosen → chosen ≡ Some next
    → (MayTake (input_of closed tenant own) trace (origin_of next.source) next.act → FaultsAt (input_of closed tenant own) trace (origin_of next.source) next.act progress.replay.loses fault)
    → ComesTo closed tenant limits loses (ended_by fault)
comes_to closed tenant limits own trace progress loses chosen next fault same mode stands choice is faults =
    let next_step : IsNextStep (input_of closed tenant own) trace next = subst (IsChoice (input_of closed tenant own) trace) is choice in
    subst (λ b. ComesTo closed tenant limits b (ended_by fault)) mode
    (subst (λ l. ComesTo closed tenant l progress.replay.loses (ended_by fault)) same
    (come_to closed tenant own trace (origin_of next.source) next.act progress.replay.loses fault stands.front next_step (faults next_step)))

pub unsent : (input : Input) (trace : Trace) (progress : Progress) (partition : ℕ) → HasTakenSteps input trace progress → NoneIsFree input trace → IsUnsentAt input trace partition → IsUnsent input
unsent input trace progress partition stands none at = record { trace = trace; front = stands.front; none = none; partition = partition; unsent = at }

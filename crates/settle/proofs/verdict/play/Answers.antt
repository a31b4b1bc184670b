use Rattle.std.proofs.Common.{◌∷◌, [], sym, ◌∙◌, subst}
use Rattle.settle.specs.Input.{input_of}
use Rattle.settle.specs.Trace.{TracedStep}
use Rattle.settle.specs.Standing.{HasTakenSteps, IsChoice, origin_of}
use Rattle.settle.specs.Verdict.{HasJournals, ComesTo}
use Rattle.settle.proofs.Verdicts.{comes_to}
use Rattle.settle.proofs.verdict.play.Goals as goal

pub loop-step-init : goal.loop-step-init
loop-step-init c = record { sized = c.in_ok-progress.ensures.sized; limits = c.in_ok-progress.ensures.settings.limits; loses = c.in_ok-progress.ensures.settings.loses; stands = ([], c.in_ok-progress.ensures.stands c.args.tenant) }

pub loop-step-preserved : goal.loop-step-preserved
loop-step-preserved c =
    let closed = c.args.closed.now in
    let own = c.loop-step.progress.replay.limits in
    let trace = c.loop-step.invariant.stands.0 in
    let stands = subst (λ l. HasTakenSteps (input_of closed c.args.tenant l) trace c.loop-step.progress) (sym c.loop-step.invariant.limits) c.loop-step.invariant.stands.1 in
    let may = subst (IsChoice (input_of closed c.args.tenant own) trace) c.in-Some.is (c.in_ok-next.ensures.choice trace stands) in
    let taken : TracedStep = record { origin = origin_of c.in-Some.next.source; act = c.in-Some.next.act } in
    record {
      sized = c.take.ensures.sized;
      limits = c.take.ensures.settings.limits ∙ c.loop-step.invariant.limits;
      loses = c.take.ensures.settings.loses ∙ c.loop-step.invariant.loses;
      stands = (taken ∷ trace, subst (λ l. HasTakenSteps (input_of closed c.args.tenant l) (taken ∷ trace) c.take.new.self) c.loop-step.invariant.limits (c.in_default.ensures.takes trace stands may));
    }

pub returns-in-Err : goal.returns-in-Err
returns-in-Err c =
    let closed = c.args.closed.now in
    let own = c.loop-step.progress.replay.limits in
    let trace = c.loop-step.invariant.stands.0 in
    let stands = subst (λ l. HasTakenSteps (input_of closed c.args.tenant l) trace c.loop-step.progress) (sym c.loop-step.invariant.limits) c.loop-step.invariant.stands.1 in
    let come = comes_to closed c.args.tenant c.args.limits.now own trace c.loop-step.progress c.args.loses c.in_ok-next.field-0 c.in-Some.next c.in-Err.fault c.loop-step.invariant.limits c.loop-step.invariant.loses stands
    (c.in_ok-next.ensures.choice trace stands) c.in-Some.is (c.in-Err.ensures.takes trace stands) in
    subst (ComesTo closed c.args.tenant c.args.limits.now c.args.loses) (sym c.ended_by.ensures) come

pub verdict-requires-clause-journals : goal.verdict-requires-clause-journals
verdict-requires-clause-journals c = subst (HasJournals c.args.closed.now c.args.tenant) (sym c.loop-step.invariant.limits) c.requires.journals

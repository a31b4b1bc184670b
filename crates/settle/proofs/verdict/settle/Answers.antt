use Rattle.std.proofs.Common.{rules, List, slice_get, ◌≡◌, ◌∙◌, sym, ap, Some, Result, Ok, Err, MatchResult, ℕ}
use Rattle.std.specs.Option.{option_copied}
use Rattle.std.specs.Global.{Vec}
use Rattle.plain_store.specs.declared.step.Step.{Step}
use Rattle.stamps.specs.declared.bounds.Limits.{Limits}
use Rattle.closed_store.specs.declared.closed.Closed.{Closed}
use Rattle.settle.specs.declared.settle_fault.SettleFault.{SettleFault}
use Rattle.settle.specs.Input.{input_of}
use Rattle.settle.specs.Verdict.{IsVerdictFor, Settles, IsFaulty, limits_at}
use Rattle.settle.proofs.Words.{looked_up}
use Rattle.settle.proofs.verdict.settle.Goals as goal

-- under limits that are there a verdict is what was come to
verdict_for : (closed : Closed) (tenant : ℕ) (limits : Limits) (verdict : Result (Vec Step) SettleFault)
    → MatchResult verdict (λ steps. Settles (input_of closed tenant limits) steps.items) (IsFaulty closed tenant limits)
    → IsVerdictFor closed tenant (Some limits) verdict
verdict_for closed tenant limits (Ok steps) settles = settles
verdict_for closed tenant limits (Err fault) faulty = faulty

pub returns : goal.returns
returns c =
    let at : limits_at c.args.closed.now c.args.tenant ≡ Some c.in-Some.limits.now =
    sym (ap (λ (all : List Limits). slice_get all c.args.tenant) c.deref.ensures.value)
    ∙ sym (looked_up c.deref.result.now c.args.tenant c.get.result c.get.ensures.lookup.0 c.get.ensures.lookup.1) ∙ ap option_copied c.in-Some.is in
    rw at (search (rules, verdict_for))

use Rattle.std.proofs.Common.{[], sym, subst}
use Rattle.prepare_commit.specs.Bases.{Frozen}
use Rattle.server_verdicts.specs.Taken.{SomeLead}
use Rattle.server_verdicts.proofs.EpochLaws.{led_after, led_before, none_lead, not_next}
use Rattle.server_verdicts.proofs.epochs.checked.Checked.take.Goals as goal

pub invariant_of-self-clause-led : goal.invariant_of-self-clause-led
invariant_of-self-clause-led c =
    let old = c.args.self.now in
    led_after old.limits old.number old.end c.go_on.new.end c.args.epoch c.in-Ok-true.field-0 old.led c.in-Ok-true.field-0-test c.in-Ok-true.ensures.exact c.in-Ok-true.ensures.led

pub invariant_of-self-in-Ok-false-clause-led : goal.invariant_of-self-in-Ok-false-clause-led
invariant_of-self-in-Ok-false-clause-led c =
    let old = c.args.self.now in
    led_before old.limits old.number old.end c.go_on.new.end (c.in-Ok-false.ensures.stays c.in-Ok-false.field-0-test) old.led

pub invariant_of-self-in-Ok-false-clause-fell : goal.invariant_of-self-in-Ok-false-clause-fell
invariant_of-self-in-Ok-false-clause-fell c =
    let old = c.args.self.now in
    ∣ (λ _. not_next old.number old.end c.go_on.new.end c.args.epoch c.in-Ok-false.field-0 (c.in-Ok-false.ensures.stays c.in-Ok-false.field-0-test) c.in-Ok-false.field-0-test c.in-Ok-false.ensures.exact) ∣₁

pub invariant_of-self-in-Err-1-clause-led : goal.invariant_of-self-in-Err-1-clause-led
invariant_of-self-in-Err-1-clause-led c =
    subst (λ (e : Frozen). SomeLead c.args.self.now.limits 0 e) (sym c.nothing_yet.ensures) ∣ ([], none_lead c.args.self.now.limits) ∣₁

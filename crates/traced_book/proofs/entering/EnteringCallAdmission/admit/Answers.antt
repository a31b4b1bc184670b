use Rattle.std.proofs.Common.{ℕ, ◌≤◌, ◌^◌, inl, sym, subst}
use Rattle.traced_book.proofs.Tracing.{entered_or_not}
use Rattle.traced_book.proofs.entering.EnteringCallAdmission.admit.Goals as goal

pub returns-then-self-ge-MOST : goal.returns-then-self-ge-MOST
returns-then-self-ge-MOST g c = inl (subst (λ (n : ℕ). 2 ^ 62 ≤ n) (sym c.args.self.now.counted) c.if-self-ge-MOST.true)

pub returns : goal.returns
returns g c =
    let its = c.args.self.now in
    entered_or_not c.serve-did.result its.tally.now.key its.entries its.asked its.mine.now c.again-front.result its.evidence.now c.serve-did.new.self c.if-self-ge-MOST.false c.again-front.ensures.same its.counted
    c.serve-did.ensures.adds.later c.serve-did.ensures.sees.evidence c.serve-did.ensures.adds.added c.serve-did.ensures.sees.behind

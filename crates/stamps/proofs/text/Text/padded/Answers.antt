use Rattle.std.proofs.Common.{◌≡◌, length, sym, ap, ◌∙◌, arith, length-take-le}
use Rattle.stamps.proofs.text.Text.padded.Goals as goal

pub returns-clause-zeros : goal.returns-clause-zeros
returns-clause-zeros g c =
    let many : length c.args.self.now ≡ c.self.inside.len =
    sym (ap length c.self.view_is) ∙ length-take-le c.self.inside.len c.self.inside.bytes (omega (arith, c.self.invariant.0, c.self.invariant.1)) in
    rw many c.self.invariant.2

use Rattle.std.proofs.Common.{false, refl, sym, ap, ◌∙◌}
use Rattle.std.proofs.lemmas.Bool.{both_ways}
use Rattle.prepare_commit.specs.Bases.{Frozen}
use Rattle.prepare_commit.proofs.Holding.{same_holdings}
use Rattle.prepare_commit.proofs.base.Base.is.Goals as goal

pub returns-then-not-is : goal.returns-then-not-is
returns-then-not-is c =
    let one = c.self.inside in
    let two = c.other.inside in (
      λ no. absurd (both_ways false refl no),
      λ same.
          let whole = c.self.view_is ∙ same ∙ sym c.other.view_is in
          absurd (both_ways c.is.result c.if-not-is.true (c.is.ensures.1 (same_holdings one.held two.held c.self.invariant.0 c.other.invariant.0 c.self.invariant.1.entries_ordered (ap (λ (b : Frozen). b.entries) whole) (ap (λ (b : Frozen). b.versions) whole)))),
    )

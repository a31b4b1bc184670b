use Rattle.std.proofs.Common.{subst}
use Rattle.version_chain.specs.Changes.{IsRunOf}
use Rattle.version_chain.specs.Heads.{Heads}
use Rattle.version_chain.proofs.chains.Chains.places_at.Goals as goal

pub returns : goal.returns
returns c =
    subst (λ (h : Heads). IsRunOf c.args.stamp h.kept c.places.result.0 c.places.result.1) c.self.view_is
    (record { ordered = c.places.ensures.ordered; within = c.places.ensures.within; together = c.places.ensures.together })

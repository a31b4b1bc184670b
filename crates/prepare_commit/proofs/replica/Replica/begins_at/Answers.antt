use Rattle.std.proofs.Common.{sym, ap, subst, ◌∙◌}
use Rattle.version_chain.specs.Chain.{HasShare}
use Rattle.prepare_commit.specs.Bases.{base_of, HasStood}
use Rattle.prepare_commit.specs.InBlock.{Parts}
use Rattle.prepare_commit.proofs.replica.Replica.begins_at.Goals as goal

pub invariant_of-self : goal.invariant_of-self
invariant_of-self c =
    let done = c.begins_at.ensures in
    let P : Parts → Type 0 = λ p. HasShare c.self.inside.block p.chains in
    let Q : Parts → Type 0 = λ p. HasStood c.self.inside.block p in
    (done.lies, subst P (sym done.rest) c.self.invariant.1, subst Q (sym done.rest) c.self.invariant.2)

pub returns-clause-same : goal.returns-clause-same
returns-clause-same c = ap (base_of c.self.inside.block) c.begins_at.ensures.rest ∙ c.self.view_is

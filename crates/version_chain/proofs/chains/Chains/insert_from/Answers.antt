use Rattle.std.proofs.Common.{◌≡◌, true, false, Some, refl, sym, ap, ◌∙◌}
use Rattle.version_chain.specs.Chain.{at_stamp, chain_versions}
use Rattle.version_chain.proofs.chains.Chains.insert_from.Goals as goal
use Rattle.version_chain.proofs.chains.Chains.insert_from.Goals.{then-is, else-is}

-- the chain has a record of the stamp: this one or another
pub returns-in-Some-clause-answer : goal.returns-in-Some-clause-answer
returns-in-Some-clause-answer c =
    let versions = chain_versions c.args.block.now c.args.self.now c.args.chain in
    let found : at_stamp versions c.args.added.now.stamp ≡ Some c.in-Some.found = sym (c.in-Some.ensures ∙ ap (at_stamp versions) c.stamp_of-stamp.ensures) in
    elim c.if-is.branch [
      | then-is w ↦ rw w.result-is (found ∙ ap Some (c.is.ensures.0 w.if-is.true), (refl, refl))
      | else-is w ↦ rw w.result-is (c.in-Some.found, found, λ same. absurd (let both : true ≡ false = sym (c.is.ensures.1 same) ∙ w.if-is.false in cc), (refl, refl))
    ]

use Rattle.std.proofs.Common.{sym, ◌∙◌}
use Rattle.std.proofs.lemmas.Bool.{eqb-true, eqb-false}
use Rattle.version_chain.proofs.Finding.{has, lacks, lacks_all}
use Rattle.version_chain.proofs.chains.Chains.record_at.Goals as goal

pub returns-in_err-last : goal.returns-in_err-last
returns-in_err-last c = c.from_residual.ensures ∙ sym (lacks_all _ _ _ _ _ _ c.requires.place.1 c.requires.chain.stands c.requires.chain.known c.in_err-last.was)

pub returns-then-is_at : goal.returns-then-is_at
returns-then-is_at c =
    rw c.into_record.ensures (sym (has _ _ _ _ _ _ c.requires.place.1 c.requires.chain.stands c.requires.chain.known _ _ c.in_ok-last.was c.get-node.ensures (eqb-true _ _ (sym c.is_at.ensures ∙ c.if-is_at.true))))

pub returns : goal.returns
returns c =
    sym (lacks _ _ _ _ _ _ c.requires.place.1 c.requires.chain.stands c.requires.chain.known _ _ c.in_ok-last.was c.get-node.ensures (eqb-false _ _ (sym c.is_at.ensures ∙ c.if-is_at.false)))

use Rattle.std.proofs.Common.{Bool, false, List, get_or, length, ap, ◌∙◌}
use Rattle.std.proofs.lemmas.List.{length-set}
use Rattle.prepare_commit.proofs.Noting.{fewer_noted}
use Rattle.prepare_commit.proofs.changed.ChangedChains.clear.Goals as goal

pub loop-chain-smaller : goal.loop-chain-smaller
loop-chain-smaller c = rw c.in-Some.ensures.taken (fewer_noted c.loop-chain.self c.in-Some._chain c.in-Some.ensures.noted.0 c.in-Some.ensures.noted.1)

pub loop-chain-preserved : goal.loop-chain-preserved
loop-chain-preserved c =
    ap length c.in-Some.ensures.taken ∙ length-set c.loop-chain.self c.in-Some._chain false ∙ c.loop-chain.invariant

pub returns-clause-long : goal.returns-clause-long
returns-clause-long c = ap length (c.take.ensures.none c.in_default.is).0 ∙ c.loop-chain.invariant

pub returns-clause-none : goal.returns-clause-none
returns-clause-none c chain =
    let end = c.take.ensures.none c.in_default.is in
    ap (λ (bs : List Bool). get_or bs chain false) end.0 ∙ end.1 chain

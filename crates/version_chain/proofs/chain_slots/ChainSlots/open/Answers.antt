use Rattle.std.proofs.Common.{◌≡◌, replicate, None, ap, ◌∙◌, arith}
use Rattle.version_chain.proofs.BothSlots.{heads_of, latest_of, no_heads, no_latest}
use Rattle.version_chain.proofs.chain_slots.ChainSlots.open.Goals as goal

pub returns-clause-heads : goal.returns-clause-heads
returns-clause-heads c =
    let n : c.loop-chain._chain ≡ c.args.chains = omega (arith, c.loop-chain.invariant.2, c.loop-chain-test.false) in
    ap heads_of c.loop-chain.invariant.0 ∙ no_heads c.loop-chain._chain ∙ ap (λ k. replicate k None) n

pub returns-clause-latest : goal.returns-clause-latest
returns-clause-latest c =
    let n : c.loop-chain._chain ≡ c.args.chains = omega (arith, c.loop-chain.invariant.2, c.loop-chain-test.false) in
    ap latest_of c.loop-chain.invariant.0 ∙ no_latest c.loop-chain._chain ∙ ap (λ k. replicate k None) n

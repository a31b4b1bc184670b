use Rattle.std.proofs.Common.{false, arith}
use Rattle.std.proofs.lemmas.List.{length-set}
use Rattle.prepare_commit.proofs.Noting.{last_within, rest_noted}
use Rattle.prepare_commit.proofs.changed.ChangedChains.take.Goals as goal

pub index_mut-requires : goal.index_mut-requires
index_mut-requires c =
    let chains = c.self.inside in
    omega (arith, last_within chains.flags.items chains.numbers.items c.pop.new.self.items c.self.invariant.0 c.in_ok-chain.chain c.in_ok-chain.ensures.items, chains.flags.ok.0)

pub invariant_of-self-2 : goal.invariant_of-self-2
invariant_of-self-2 c =
    let chains = c.self.inside in (
      rest_noted chains.flags.items chains.numbers.items c.pop.new.self.items c.self.invariant.0 c.in_ok-chain.chain c.in_ok-chain.ensures.items,
      omega (arith, length-set chains.flags.items c.in_ok-chain.chain false, c.self.invariant.1, c.in_ok-chain.ensures.capacity),
    )

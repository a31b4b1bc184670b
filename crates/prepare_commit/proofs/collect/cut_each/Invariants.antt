use Rattle.std.proofs.Common.{◌≡◌, ◌+◌, map, take}
use Rattle.version_chain.specs.Sharing.{ChangesOwn}
use Rattle.prepare_commit.specs.Calls.{HoldItems}
use Rattle.prepare_commit.specs.Layout.{chain_lists}
use Rattle.prepare_commit.proofs.CollectedChains.{paired, collected_among}
use Rattle.prepare_commit.proofs.collect.cut_each.Given as goal

-- of the items of the chains so far the floors are raised, and the versions below them dropped
abbrev pub invariant-loop-chain : goal.invariant-loop-chain
invariant-loop-chain l = record {
  held : HoldItems l.block l.versions l.items.items;
  own : ChangesOwn l.initial.block l.block l.initial.versions.chains l.versions.chains;
  room : l.items.room ≡ l.initial.items.room;
  pairs : paired l.items.items (chain_lists l.block l.versions.chains) ≡ map (collected_among (take l.chain-index l.chains) l.keep) (paired l.initial.items.items (chain_lists l.initial.block l.initial.versions.chains));
  fewer : l.versions.chains.used + l.freed ≡ l.initial.versions.chains.used;
}

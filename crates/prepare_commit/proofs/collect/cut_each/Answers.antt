use Rattle.std.proofs.Common.{◌≡◌, ℕ, List, map, get_or, refl, ap, ◌∙◌, arith}
use Rattle.std.proofs.lemmas.List.{take_all}
use Rattle.prepare_commit.specs.Layout.{chain_lists, item_chains, raised_item, kept_chain}
use Rattle.prepare_commit.proofs.CollectedChains.{paired, collected_among, collected_where, pair_where, parted_all, none_collected, one_collected, all_collected}
use Rattle.version_chain.proofs.Changing.{own_none, own_next}
use Rattle.prepare_commit.proofs.collect.cut_each.Goals as goal
use Rattle.prepare_commit.proofs.collect.cut_each.Goals.{After-loop-chain}

pub loop-chain-init : goal.loop-chain-init
loop-chain-init c = record {
  held = c.requires.held;
  own = own_none c.args.block.now c.args.versions.now.chains;
  room = refl;
  pairs = none_collected c.args.keep (paired c.args.items.now.items (chain_lists c.args.block.now c.args.versions.now.chains));
  fewer = omega arith;
}

pub loop-chain-preserved : goal.loop-chain-preserved
loop-chain-preserved c =
    let was = c.loop-chain.invariant in
    let cut = c.cut_chain-freed.ensures in
    let keep = c.args.keep in
    let chain = get_or c.args.chains.now c.loop-chain.chain-index 0 in
    let now = chain_lists c.loop-chain.block c.loop-chain.versions.chains in
    let next = chain_lists c.cut_chain-freed.new.block c.cut_chain-freed.new.versions.chains in
    record {
      held = cut.left.held;
      own = own_next c.args.block.now c.loop-chain.block c.cut_chain-freed.new.block c.args.versions.now.chains c.loop-chain.versions.chains c.cut_chain-freed.new.versions.chains was.own cut.left.own;
      room = cut.left.room ∙ was.room;
      pairs =
          pair_where chain keep c.cut_chain-freed.new.items.items c.loop-chain.items.items next now cut.raised cut.kept
          ∙ ap (map (collected_where chain keep)) was.pairs
          ∙ one_collected keep c.args.chains.now c.loop-chain.chain-index 0 c.loop-chain-test.true (paired c.args.items.now.items (chain_lists c.args.block.now c.args.versions.now.chains));
      fewer = omega (arith, cut.left.fewer, was.fewer);
    }

all : (c : After-loop-chain) → (c.loop-chain.items.items ≡ map (raised_item c.args.keep (chain_lists c.args.block.now c.args.versions.now.chains)) c.args.items.now.items)
    × (item_chains c.loop-chain.items.items (chain_lists c.loop-chain.block c.loop-chain.versions.chains) ≡ map (kept_chain c.args.keep (chain_lists c.args.block.now c.args.versions.now.chains)) c.args.items.now.items)
all c =
    let items = c.args.items.now.items in
    let start = chain_lists c.args.block.now c.args.versions.now.chains in
    parted_all c.args.keep _ _ _ _ (c.loop-chain.invariant.pairs
    ∙ ap (λ (numbers : List ℕ). map (collected_among numbers c.args.keep) (paired items start)) (take_all c.loop-chain.chain-index c.args.chains.now (omega (arith, c.loop-chain-test.false)))
    ∙ all_collected c.args.keep c.args.chains.now items start c.requires.settled)

pub returns : goal.returns
returns c =
    let at = (goal.at.returns c).After-loop-chain in
    let was = c.loop-chain.invariant in
    record { left = record { held = was.held; own = was.own; room = was.room; fewer = was.fewer }; raised = (all at).0; kept = (all at).1 }

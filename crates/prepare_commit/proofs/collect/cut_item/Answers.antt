use Rattle.std.proofs.Common.{◌≡◌, ◌<◌, nat_le, [], filter, set, length, get_or, ap, sym, subst, ◌∙◌, arith}
use Rattle.std.proofs.lemmas.List.{get_or-set_same, get_or_default, length-set}
use Rattle.version_chain.specs.declared.version.Version.{Version}
use Rattle.prepare_commit.specs.declared.items.ChainedItem.{ChainedItem}
use Rattle.prepare_commit.specs.Layout.{chain_lists, chain_at, together, item_chains, raised_item, kept_chain}
use Rattle.prepare_commit.proofs.Chaining.{has_chain}
use Rattle.prepare_commit.proofs.CollectedChains.{laid_cut, long_cut}
use Rattle.prepare_commit.proofs.collect.cut_item.Goals as goal
use Rattle.prepare_commit.proofs.collect.cut_item.Goals.{After-get, After-cut_below}

there : (c : After-get) → c.get.result.now.chain < length (chain_lists c.args.block.now c.args.versions.now.chains)
there c =
    let given = c.requires.held.have.laid.given c.args.place c.get.result.now c.requires.within in
    omega (arith, given, ap (λ (x : ChainedItem). x.chain) c.get.ensures, c.requires.held.have.within)

pub raised_item-item-requires : goal.raised_item-item-requires
raised_item-item-requires c = has_chain c.args.block.now c.args.versions.now.chains c.get.result.now.chain c.requires.held.lies.stands (there (goal.at.raised_item-item-requires c).After-get)

pub cut_below-requires : goal.cut_below-requires
cut_below-requires c = record {
  known = subst (λ (x : ChainedItem). x.chain < length (chain_lists c.args.block.now c.args.versions.now.chains)) (sym c.raised_item-item.ensures) (there (goal.at.cut_below-requires c).After-get);
  lies = c.requires.held.lies;
}

-- the items and the chains that are left
left : (c : After-cut_below) (i : ChainedItem) → i ≡ get_or c.args.items.now.items c.args.place i
    → (c.set.new.self.items ≡ set c.args.items.now.items c.args.place (raised_item c.args.keep (chain_lists c.args.block.now c.args.versions.now.chains) i))
    × (chain_lists c.cut_below.new.block c.cut_below.new.self.chains ≡ set (chain_lists c.args.block.now c.args.versions.now.chains) i.chain (kept_chain c.args.keep (chain_lists c.args.block.now c.args.versions.now.chains) i))
left c i is =
    let items = c.args.items.now.items in
    let lists = chain_lists c.args.block.now c.args.versions.now.chains in
    let raised = c.raised_item-item.ensures ∙ ap (raised_item c.args.keep lists) (c.get.ensures ∙ get_or_default items c.args.place c.get.result.now i c.requires.within ∙ sym is) in (
      c.set.ensures.items ∙ ap (set items c.args.place) raised,
      c.cut_below.ensures.kept ∙ ap (λ (x : ChainedItem). set lists x.chain (filter (λ (v : Version). nat_le x.entry.floor v.prepared.stamp) (chain_at lists x.chain))) raised,
    )

pub returns : goal.returns
returns c =
    let at = (goal.at.returns c).After-cut_below in
    let less = there (goal.at.returns c).After-get in
    let lists = chain_lists c.args.block.now c.args.versions.now.chains in
    let items = c.args.items.now.items in
    let i = c.get.result.now in
    let kept = kept_chain c.args.keep lists i in
    let are = left at i c.get.ensures in
    let cut = c.cut_below.ensures in
    let chain_is = ap (λ (x : ChainedItem). x.chain) c.raised_item-item.ensures in
    let short = ap length ((λ j. chain_at (are.1 j) (chain_is j)) ∙ get_or-set_same lists i.chain kept [] less) in
    let long = ap (λ n. length (chain_at lists n)) chain_is in
    let both : length (together (item_chains c.set.new.self.items (chain_lists c.cut_below.new.block c.cut_below.new.self.chains))) ≡ length (together (item_chains (set items c.args.place (raised_item c.args.keep lists i)) (set lists i.chain kept))) = λ j. length (together (item_chains (are.0 j) (are.1 j))) in
    record {
      left = record {
        held = record {
          lies = cut.changed.lies;
          have = record {
            laid = rw (are.0, are.1) (laid_cut c.args.keep items lists c.args.place i c.requires.within c.get.ensures c.requires.held.have.laid less);
            within = omega (arith, c.set.ensures.len, c.requires.held.have.within, ap length are.1, length-set lists i.chain kept);
            counted = omega (arith, cut.fewer, cut.freed, c.requires.held.have.counted, short, long, both, long_cut c.args.keep items lists c.args.place i c.requires.within c.get.ensures c.requires.held.have.laid less);
          };
        };
        own = cut.changed.own;
        room = c.set.ensures.room;
        fewer = cut.fewer;
      };
      raised = λ j is. (left at j is).0;
      kept = λ j is. (left at j is).1;
    }

use Rattle.std.proofs.Common.{◌≡◌, List, map, get_or, set, refl, ap, sym, subst, ◌∙◌, arith}
use Rattle.lists.specs.Listing.{Listing}
use Rattle.version_chain.proofs.Changing.{own_none}
use Rattle.prepare_commit.specs.declared.items.ChainedItem.{ChainedItem}
use Rattle.prepare_commit.specs.Calls.{GivesUpOf, IsCutTo}
use Rattle.prepare_commit.specs.Layout.{chain_lists, raised_item}
use Rattle.prepare_commit.specs.Remembered.{raised_where, kept_where}
use Rattle.prepare_commit.proofs.CollectedChains.{paired, collected_where, parted_where, none_there, cut_where}
use Rattle.prepare_commit.proofs.collect.cut_chain.Goals as goal

pub returns : goal.returns
returns c =
    let chains = chain_lists c.args.block.now c.args.versions.now.chains in
    let items = c.args.items.now.items in
    let at = c.in-Some.ensures.found in
    let same : c.find_place.new.items.items ≡ items = ap (λ (l : Listing ChainedItem). l.items) c.in-Some.ensures.same in
    let here : at.i ≡ get_or c.find_place.new.items.items c.in-Some.place at.i = at.is ∙ ap (λ (xs : List ChainedItem). get_or xs c.in-Some.place at.i) (sym same) in
    let cut = c.cut_item.ensures in
    let raised : c.cut_item.new.items.items ≡ set items c.in-Some.place (raised_item c.args.keep chains at.i) =
    cut.raised at.i here ∙ ap (λ (xs : List ChainedItem). set xs c.in-Some.place (raised_item c.args.keep chains at.i)) same in
    let kept = cut.kept at.i here in
    let both = parted_where c.args.chain c.args.keep _ _ _ _ ((λ j. paired (raised j) (kept j))
    ∙ cut_where c.args.keep items chains c.in-Some.place at.i at.within at.is c.requires.held.have.laid (omega (arith, c.requires.known, at.chain_is))
    ∙ ap (λ n. map (collected_where n c.args.keep) (paired items chains)) at.chain_is) in
    record {
      left = subst (λ (l : Listing ChainedItem). GivesUpOf c.cut_item.result c.args.block.now c.args.versions.now l c.cut_item.new.block c.cut_item.new.versions c.cut_item.new.items) c.in-Some.ensures.same cut.left;
      raised = both.0;
      kept = both.1;
    }

-- a chain without versions
pub returns-in_default : goal.returns-in_default
returns-in_default c =
    let chains = chain_lists c.args.block.now c.args.versions.now.chains in
    let stays = parted_where c.args.chain c.args.keep _ _ _ _ (none_there c.args.keep c.args.items.now.items chains c.args.chain (c.in_default.ensures.none refl)) in
    subst (λ (l : Listing ChainedItem). IsCutTo (raised_where c.args.chain c.args.keep chains) (kept_where c.args.chain c.args.keep chains) 0 c.args.block.now c.args.versions.now c.args.items.now c.args.block.now c.args.versions.now l) (sym c.in_default.ensures.same) (
    record {
      left = record { held = c.requires.held; own = own_none c.args.block.now c.args.versions.now.chains; room = refl; fewer = omega arith };
      raised = stays.0;
      kept = stays.1;
    }
    )

use Rattle.std.proofs.Common.{◌≡◌, ◌<◌, ◌++◌, ℕ, List, [], length, get_or, sym, ap, subst, ◌∙◌, arith}
use Rattle.version_chain.specs.declared.version.Version.{Version}
use Rattle.packed.specs.Cuts.{IsCut, pieces}
use Rattle.packed.proofs.Pieces.{as_many}
use Rattle.version_chain.proofs.PackedChains.{on_ok, part_within, chain_is}
use Rattle.version_chain.proofs.chain_list.ChainList.put_to.Goals as goal
use Rattle.version_chain.proofs.chain_list.ChainList.put_to.Goals.{After-deref}

-- the chain is there
place : (c : After-deref) → c.args.at < length c.deref.result.now
place c =
    let l = c.self.inside in
    let many : length c.args.self.now ≡ length l.ends.items = ap (λ (chains : List (List Version)). length chains) (sym c.self.view_is) ∙ as_many l.versions 0 l.ends.items in
    omega (arith, many, c.requires, ap (λ (ns : List ℕ). length ns) c.deref.ensures.value)

cut : (c : After-deref) → IsCut 0 c.deref.result.now (length c.self.inside.versions)
cut c = subst (λ (ns : List ℕ). IsCut 0 ns (length c.self.inside.versions)) (sym c.deref.ensures.value) c.self.invariant

seen : (c : After-deref) → get_or (pieces c.self.inside.versions 0 c.deref.result.now) c.args.at [] ≡ get_or c.args.self.now c.args.at []
seen c =
    ap (λ (ns : List ℕ). get_or (pieces c.self.inside.versions 0 ns) c.args.at []) c.deref.ensures.value
    ∙ ap (λ (chains : List (List Version)). get_or chains c.args.at []) c.self.view_is

pub part_at-start-requires-clause-place : goal.part_at-start-requires-clause-place
part_at-start-requires-clause-place c = place (goal.at.part_at-start-requires-clause-place c).After-deref

pub push_part-requires : goal.push_part-requires
push_part-requires c =
    let at = (goal.at.push_part-requires c).After-deref in
    part_within c.self.inside.versions c.deref.result.now (cut at) c.args.at (place at) _ _ c.part_at-start.ensures.start c.part_at-start.ensures.end

pub returns : goal.returns
returns c =
    let at = (goal.at.returns c).After-deref in
    let is = sym (chain_is c.self.inside.versions c.deref.result.now (cut at) c.args.at (place at) _ _ c.part_at-start.ensures.start c.part_at-start.ensures.end) ∙ seen at in
    on_ok (λ put. put ∙ ap (λ (vs : List Version). c.args.list.now ++ vs) is) c.push_part.result c.push_part.ensures

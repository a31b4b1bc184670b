use Rattle.std.proofs.Common.{◌≡◌, ◌<◌, ℕ, List, [], length, get_or, sym, ap, subst, ◌∙◌, arith}
use Rattle.std.proofs.lemmas.Bool.{eqb-true}
use Rattle.std.proofs.lemmas.List.{take_all}
use Rattle.version_chain.specs.declared.version.Version.{Version}
use Rattle.packed.specs.Cuts.{IsCut, pieces}
use Rattle.packed.proofs.Pieces.{as_many}
use Rattle.version_chain.proofs.PackedChains.{part_within, part_long, chain_is}
use Rattle.version_chain.proofs.chain_list.ChainList.is_list.Goals as goal
use Rattle.version_chain.proofs.chain_list.ChainList.is_list.Goals.{After-deref}

-- the chain is there
place : (c : After-deref) → c.args.at < length c.deref.result.now
place c =
    let l = c.self.inside in
    let many : length c.args.self.now ≡ length l.ends.items = ap (λ (chains : List (List Version)). length chains) (sym c.self.view_is) ∙ as_many l.versions 0 l.ends.items in
    omega (arith, many, c.requires, ap (λ (ns : List ℕ). length ns) c.deref.ensures.value)

cut : (c : After-deref) → IsCut 0 c.deref.result.now (length c.self.inside.versions)
cut c = subst (λ (ns : List ℕ). IsCut 0 ns (length c.self.inside.versions)) (sym c.deref.ensures.value) c.self.invariant

seen : (c : After-deref) → get_or (pieces c.self.inside.versions 0 c.deref.result.now) c.args.at [] ≡ get_or c.args.self.now c.args.at []
seen c =
    ap (λ (ns : List ℕ). get_or (pieces c.self.inside.versions 0 ns) c.args.at []) c.deref.ensures.value
    ∙ ap (λ (chains : List (List Version)). get_or chains c.args.at []) c.self.view_is

pub part_at-start-requires-clause-place : goal.part_at-start-requires-clause-place
part_at-start-requires-clause-place c = place (goal.at.part_at-start-requires-clause-place c).After-deref

pub has_part-requires-clause-own : goal.has_part-requires-clause-own
has_part-requires-clause-own c =
    let at = (goal.at.has_part-requires-clause-own c).After-deref in
    part_within c.self.inside.versions c.deref.result.now (cut at) c.args.at (place at) _ _ c.part_at-start.ensures.start c.part_at-start.ensures.end

pub returns-then-count-len : goal.returns-then-count-len
returns-then-count-len c =
    let at = (goal.at.returns-then-count-len c).After-deref in
    let is = sym (chain_is c.self.inside.versions c.deref.result.now (cut at) c.args.at (place at) _ _ c.part_at-start.ensures.start c.part_at-start.ensures.end) ∙ seen at in
    let whole = take_all c.part_at-start.result.1 c.args.list.now (omega (arith, c.if-count-len.true, c.len.ensures.count)) in
    (λ yes. sym is ∙ c.has_part.ensures.0 yes ∙ whole, λ same. c.has_part.ensures.1 (is ∙ same ∙ sym whole))

pub returns-else-count-len : goal.returns-else-count-len
returns-else-count-len c =
    let at = (goal.at.returns-else-count-len c).After-deref in
    let is = sym (chain_is c.self.inside.versions c.deref.result.now (cut at) c.args.at (place at) _ _ c.part_at-start.ensures.start c.part_at-start.ensures.end) ∙ seen at in
    let long = part_long c.self.inside.versions c.deref.result.now (cut at) c.args.at (place at) _ _ c.part_at-start.ensures.start c.part_at-start.ensures.end in (
      λ yes. absurd (c.if-count-len.false (eqb-true _ _ yes)),
      λ same. absurd (c.if-count-len.false (sym long ∙ ap (λ (vs : List Version). length vs) (is ∙ same) ∙ sym c.len.ensures.count)),
    )

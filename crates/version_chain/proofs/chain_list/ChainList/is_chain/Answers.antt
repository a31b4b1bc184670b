use Rattle.std.proofs.Common.{◌≡◌, ◌<◌, ℕ, List, [], length, get_or, take, drop, sym, ap, subst, ◌∙◌, arith}
use Rattle.std.proofs.lemmas.Bool.{eqb-true}
use Rattle.version_chain.specs.declared.version.Version.{Version}
use Rattle.packed.specs.Cuts.{IsCut, pieces}
use Rattle.packed.proofs.Pieces.{as_many}
use Rattle.version_chain.proofs.PackedChains.{part_within, part_long, chain_is}
use Rattle.version_chain.proofs.chain_list.ChainList.is_chain.Goals as goal
use Rattle.version_chain.proofs.chain_list.ChainList.is_chain.Goals.{After-deref, After-deref-2}

-- the chain is there
place : (c : After-deref) → c.args.at < length c.deref.result.now
place c =
    let l = c.self.inside in
    let many : length c.args.self.now ≡ length l.ends.items = ap (λ (chains : List (List Version)). length chains) (sym c.self.view_is) ∙ as_many l.versions 0 l.ends.items in
    omega (arith, many, c.requires.own, ap (λ (ns : List ℕ). length ns) c.deref.ensures.value)

cut : (c : After-deref) → IsCut 0 c.deref.result.now (length c.self.inside.versions)
cut c = subst (λ (ns : List ℕ). IsCut 0 ns (length c.self.inside.versions)) (sym c.deref.ensures.value) c.self.invariant

seen : (c : After-deref) → get_or (pieces c.self.inside.versions 0 c.deref.result.now) c.args.at [] ≡ get_or c.args.self.now c.args.at []
seen c =
    ap (λ (ns : List ℕ). get_or (pieces c.self.inside.versions 0 ns) c.args.at []) c.deref.ensures.value
    ∙ ap (λ (chains : List (List Version)). get_or chains c.args.at []) c.self.view_is

-- the chain is there
place-2 : (c : After-deref-2) → c.args.place < length c.deref-2.result.now
place-2 c =
    let l = c.other.inside in
    let many : length c.args.other.now ≡ length l.ends.items = ap (λ (chains : List (List Version)). length chains) (sym c.other.view_is) ∙ as_many l.versions 0 l.ends.items in
    omega (arith, many, c.requires.others, ap (λ (ns : List ℕ). length ns) c.deref-2.ensures.value)

cut-2 : (c : After-deref-2) → IsCut 0 c.deref-2.result.now (length c.other.inside.versions)
cut-2 c = subst (λ (ns : List ℕ). IsCut 0 ns (length c.other.inside.versions)) (sym c.deref-2.ensures.value) c.other.invariant

seen-2 : (c : After-deref-2) → get_or (pieces c.other.inside.versions 0 c.deref-2.result.now) c.args.place [] ≡ get_or c.args.other.now c.args.place []
seen-2 c =
    ap (λ (ns : List ℕ). get_or (pieces c.other.inside.versions 0 ns) c.args.place []) c.deref-2.ensures.value
    ∙ ap (λ (chains : List (List Version)). get_or chains c.args.place []) c.other.view_is

pub part_at-start-requires-clause-place : goal.part_at-start-requires-clause-place
part_at-start-requires-clause-place c = place (goal.at.part_at-start-requires-clause-place c).After-deref

pub part_at-from-requires-clause-place : goal.part_at-from-requires-clause-place
part_at-from-requires-clause-place c = place-2 (goal.at.part_at-from-requires-clause-place c).After-deref-2

pub has_part-requires-clause-own : goal.has_part-requires-clause-own
has_part-requires-clause-own c =
    let at = (goal.at.has_part-requires-clause-own c).After-deref in
    part_within c.self.inside.versions c.deref.result.now (cut at) c.args.at (place at) _ _ c.part_at-start.ensures.start c.part_at-start.ensures.end

pub has_part-requires-clause-others : goal.has_part-requires-clause-others
has_part-requires-clause-others c =
    let at = (goal.at.has_part-requires-clause-others c).After-deref-2 in
    let fits = part_within c.other.inside.versions c.deref-2.result.now (cut-2 at) c.args.place (place-2 at) _ _ c.part_at-from.ensures.start c.part_at-from.ensures.end in
    omega (arith, fits, c.if-count-many.true)

pub returns-then-count-many : goal.returns-then-count-many
returns-then-count-many c =
    let at = (goal.at.returns-then-count-many c).After-deref in
    let there = (goal.at.returns-then-count-many c).After-deref-2 in
    let is = sym (chain_is c.self.inside.versions c.deref.result.now (cut at) c.args.at (place at) _ _ c.part_at-start.ensures.start c.part_at-start.ensures.end) ∙ seen at in
    let others = sym (chain_is c.other.inside.versions c.deref-2.result.now (cut-2 there) c.args.place (place-2 there) _ _ c.part_at-from.ensures.start c.part_at-from.ensures.end) ∙ seen-2 there in
    let many = ap (λ (n : ℕ). take n (drop c.part_at-from.result.0 c.other.inside.versions)) c.if-count-many.true in
    (λ yes. sym is ∙ c.has_part.ensures.0 yes ∙ many ∙ others, λ same. c.has_part.ensures.1 (is ∙ same ∙ sym (many ∙ others)))

pub returns-else-count-many : goal.returns-else-count-many
returns-else-count-many c =
    let at = (goal.at.returns-else-count-many c).After-deref in
    let there = (goal.at.returns-else-count-many c).After-deref-2 in
    let is = sym (chain_is c.self.inside.versions c.deref.result.now (cut at) c.args.at (place at) _ _ c.part_at-start.ensures.start c.part_at-start.ensures.end) ∙ seen at in
    let others = sym (chain_is c.other.inside.versions c.deref-2.result.now (cut-2 there) c.args.place (place-2 there) _ _ c.part_at-from.ensures.start c.part_at-from.ensures.end) ∙ seen-2 there in
    let long = part_long c.self.inside.versions c.deref.result.now (cut at) c.args.at (place at) _ _ c.part_at-start.ensures.start c.part_at-start.ensures.end in
    let wide = part_long c.other.inside.versions c.deref-2.result.now (cut-2 there) c.args.place (place-2 there) _ _ c.part_at-from.ensures.start c.part_at-from.ensures.end in (
      λ yes. absurd (c.if-count-many.false (eqb-true _ _ yes)),
      λ same. absurd (c.if-count-many.false (sym long ∙ ap (λ (vs : List Version). length vs) (is ∙ same ∙ sym others) ∙ wide)),
    )

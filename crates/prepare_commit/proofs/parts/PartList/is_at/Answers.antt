use Rattle.std.proofs.Common.{List, length, sym, ap, ◌∙◌, arith}
use Rattle.std.proofs.lemmas.Bool.{both_ways}
use Rattle.std.specs.Prelude.{slice_get}
use Rattle.prepare_commit.specs.Begun.{Holding}
use Rattle.prepare_commit.proofs.Places.{in_part, in_parts}
use Rattle.prepare_commit.proofs.parts.PartList.is_at.Goals as goal

pub part-requires : goal.part-requires
part-requires c = in_parts c.args.self.now c.args.place c.requires.own.0 c.requires.own.1

pub is_chain-requires-clause-own : goal.is_chain-requires-clause-own
is_chain-requires-clause-own c =
    let inside = in_part c.args.self.now c.args.place c.requires.own.0 c.requires.own.1 in
    omega (arith, inside, ap (λ (p : List Holding). length p) c.part.ensures)

pub is_chain-requires-clause-others : goal.is_chain-requires-clause-others
is_chain-requires-clause-others c =
    let inside = in_part c.args.other.now c.args.theirs c.requires.others.0 c.requires.others.1 in
    omega (arith, inside, ap (λ (p : List Holding). length p) c.part-then-is_entry.ensures)

pub returns-then-is_entry : goal.returns-then-is_entry
returns-then-is_entry c h k is at =
    let entries = sym (c.entry.ensures h is) ∙ c.is_entry.ensures.0 c.if-is_entry.true ∙ c.entry-2.ensures k at in
    let both = c.is_chain.ensures h k (ap (λ (p : List Holding). slice_get p c.args.place.at) c.part.ensures ∙ is) (ap (λ (p : List Holding). slice_get p c.args.theirs.at) c.part-then-is_entry.ensures ∙ at) in
    (λ yes i. record { entry = entries i; versions = both.0 yes i }, λ same. both.1 (ap (λ (x : Holding). x.versions) same))

pub returns-else-is_entry : goal.returns-else-is_entry
returns-else-is_entry c h k is at =
    (λ yes. absurd (both_ways c.is_entry.result c.if-is_entry.false yes), λ same. absurd (both_ways c.is_entry.result c.if-is_entry.false (c.is_entry.ensures.1 (c.entry.ensures h is ∙ ap (λ (x : Holding). x.entry) same ∙ sym (c.entry-2.ensures k at)))))

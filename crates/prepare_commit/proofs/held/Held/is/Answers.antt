use Rattle.std.proofs.Common.{◌≡◌, false, ◌<◌, ◌++◌, List, [], ◌∷◌, length, get_or, Some, refl, sym, ap, ◌∙◌, arith}
use Rattle.prepare_commit.specs.Begun.{Holding, held_at, none_held}
use Rattle.std.proofs.lemmas.Bool.{both_ways}
use Rattle.std.proofs.lemmas.List.{take_more}
use Rattle.prepare_commit.proofs.Places.{as_many, seen_at, place_there}
use Rattle.prepare_commit.proofs.held.Held.is.Goals as goal

pub is_at-requires-clause-own : goal.is_at-requires-clause-own
is_at-requires-clause-own c =
    let h = c.self.inside in
    let many = as_many h.parts h.places.items c.args.self.now (seen_at h.parts h.places.items _ c.args.self.now c.self.invariant c.self.view_is) in
    let less : c.loop-nth.nth < length c.args.self.now = omega (arith, many, h.places.ok.0, c.len-nth-end.ensures, c.loop-nth-test.true) in
    let own : held_at h.parts c.index.result.now ≡ Some (get_or c.args.self.now c.loop-nth.nth none_held) = place_there h.parts h.places.items _ c.args.self.now c.self.invariant c.self.view_is c.loop-nth.nth _ c.index.result.now c.index.ensures less in
    (_, own)

pub is_at-requires-clause-others : goal.is_at-requires-clause-others
is_at-requires-clause-others c =
    let h = c.self.inside in
    let k = c.other.inside in
    let their = as_many k.parts k.places.items c.args.other.now (seen_at k.parts k.places.items _ c.args.other.now c.other.invariant c.other.view_is) in
    let fits : c.loop-nth.nth < length c.args.other.now = omega (arith, their, h.places.ok.0, k.places.ok.0, c.len.ensures, c.len-2.ensures, c.if-len.false, c.len-nth-end.ensures, c.loop-nth-test.true) in
    let others : held_at k.parts c.index-in-loop-nth.result.now ≡ Some (get_or c.args.other.now c.loop-nth.nth none_held) = place_there k.parts k.places.items _ c.args.other.now c.other.invariant c.other.view_is c.loop-nth.nth _ c.index-in-loop-nth.result.now c.index-in-loop-nth.ensures fits in
    (_, others)

pub returns-then-not-is_at : goal.returns-then-not-is_at
returns-then-not-is_at c =
    let h = c.self.inside in
    let many = as_many h.parts h.places.items c.args.self.now (seen_at h.parts h.places.items _ c.args.self.now c.self.invariant c.self.view_is) in
    let less : c.loop-nth.nth < length c.args.self.now = omega (arith, many, h.places.ok.0, c.len-nth-end.ensures, c.loop-nth-test.true) in
    let own : held_at h.parts c.index.result.now ≡ Some (get_or c.args.self.now c.loop-nth.nth none_held) = place_there h.parts h.places.items _ c.args.self.now c.self.invariant c.self.view_is c.loop-nth.nth _ c.index.result.now c.index.ensures less in
    let k = c.other.inside in
    let their = as_many k.parts k.places.items c.args.other.now (seen_at k.parts k.places.items _ c.args.other.now c.other.invariant c.other.view_is) in
    let fits : c.loop-nth.nth < length c.args.other.now = omega (arith, their, h.places.ok.0, k.places.ok.0, c.len.ensures, c.len-2.ensures, c.if-len.false, c.len-nth-end.ensures, c.loop-nth-test.true) in
    let others : held_at k.parts c.index-in-loop-nth.result.now ≡ Some (get_or c.args.other.now c.loop-nth.nth none_held) = place_there k.parts k.places.items _ c.args.other.now c.other.invariant c.other.view_is c.loop-nth.nth _ c.index-in-loop-nth.result.now c.index-in-loop-nth.ensures fits in (
      λ no. absurd (both_ways false refl no),
      λ same. absurd (both_ways c.is_at.result c.if-not-is_at.true ((c.is_at.ensures _ _ own others).1 (ap (λ (all : List Holding). get_or all c.loop-nth.nth none_held) same))),
    )

pub loop-nth-preserved : goal.loop-nth-preserved
loop-nth-preserved c =
    let h = c.self.inside in
    let many = as_many h.parts h.places.items c.args.self.now (seen_at h.parts h.places.items _ c.args.self.now c.self.invariant c.self.view_is) in
    let less : c.loop-nth.nth < length c.args.self.now = omega (arith, many, h.places.ok.0, c.len-nth-end.ensures, c.loop-nth-test.true) in
    let own : held_at h.parts c.index.result.now ≡ Some (get_or c.args.self.now c.loop-nth.nth none_held) = place_there h.parts h.places.items _ c.args.self.now c.self.invariant c.self.view_is c.loop-nth.nth _ c.index.result.now c.index.ensures less in
    let k = c.other.inside in
    let their = as_many k.parts k.places.items c.args.other.now (seen_at k.parts k.places.items _ c.args.other.now c.other.invariant c.other.view_is) in
    let fits : c.loop-nth.nth < length c.args.other.now = omega (arith, their, h.places.ok.0, k.places.ok.0, c.len.ensures, c.len-2.ensures, c.if-len.false, c.len-nth-end.ensures, c.loop-nth-test.true) in
    let others : held_at k.parts c.index-in-loop-nth.result.now ≡ Some (get_or c.args.other.now c.loop-nth.nth none_held) = place_there k.parts k.places.items _ c.args.other.now c.other.invariant c.other.view_is c.loop-nth.nth _ c.index-in-loop-nth.result.now c.index-in-loop-nth.ensures fits in
    let same = (c.is_at.ensures _ _ own others).0 c.if-not-is_at.false in
    take_more c.args.self.now c.loop-nth.nth none_held less
    ∙ (λ i. c.loop-nth.invariant i ++ same i ∷ [])
    ∙ sym (take_more c.args.other.now c.loop-nth.nth none_held fits)

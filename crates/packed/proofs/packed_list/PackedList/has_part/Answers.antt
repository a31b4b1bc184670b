use Rattle.std.proofs.Common.{◌≡◌, ◌+◌, ◌∷◌, [], ◌++◌, List, ℕ, false, Some, refl, take, drop, sym, ap, ◌∙◌, arith}
use Rattle.std.proofs.lemmas.Bool.{both_ways}
use Rattle.packed.proofs.Pieces.{part_more, part_same}
use Rattle.packed.proofs.packed_list.PackedList.has_part.Goals as goal

some_is : {x y : List ℕ} → Some x ≡ Some y → x ≡ y
some_is e = cc

pub overflow_add-at : goal.overflow_add-at
overflow_add-at c = omega (arith, c.loop-nth-test.true, c.requires.own, c.len.ensures.few)

pub overflow_add-from : goal.overflow_add-from
overflow_add-from c = omega (arith, c.loop-nth-test.true, c.requires.others, c.len-2.ensures.few)

pub returns-then-not-are_bytes : goal.returns-then-not-are_bytes
returns-then-not-are_bytes c = (
  λ no. absurd (both_ways false refl no),
  λ same.
      let there = part_same c.args.self.now.items c.args.other.now.items c.args.at c.args.from c.args.count c.loop-nth.nth c.loop-nth-test.true same in
      absurd (both_ways c.are_bytes.result c.if-not-are_bytes.true (c.are_bytes.ensures.1 (some_is (c.get.ensures ∙ there ∙ sym c.get-in-loop-nth.ensures)))),
)

pub loop-nth-preserved : goal.loop-nth-preserved
loop-nth-preserved c =
    let xs = c.args.self.now.items in
    let ys = c.args.other.now.items in
    let same : c.get.result.now ≡ c.get-in-loop-nth.result.now = c.are_bytes.ensures.0 c.if-not-are_bytes.false in
    part_more xs c.args.at c.loop-nth.nth c.get.result.now c.get.ensures
    ∙ (λ i. c.loop-nth.invariant i ++ same i ∷ [])
    ∙ sym (part_more ys c.args.from c.loop-nth.nth c.get-in-loop-nth.result.now c.get-in-loop-nth.ensures)

use Rattle.std.proofs.Common.{◌≡◌, ◌+◌, ◌∷◌, [], ◌++◌, List, ℕ, take, drop, sym, ap, ◌∙◌, append_assoc, arith}
use Rattle.packed.proofs.Pieces.{part_more}
use Rattle.packed.proofs.packed_list.PackedList.push_part.Goals as goal

pub overflow_add-from : goal.overflow_add-from
overflow_add-from c = omega (arith, c.loop-nth-test.true, c.requires, c.len-few.ensures.few)

pub loop-nth-preserved : goal.loop-nth-preserved
loop-nth-preserved c =
    let xs = c.args.other.now.items in
    c.in_ok-push.ensures.ok
    ∙ ap (λ (ps : List (List ℕ)). ps ++ c.get.result.now ∷ []) c.loop-nth.invariant
    ∙ append_assoc c.args.self.now.items (take c.loop-nth.nth (drop c.args.from xs)) (c.get.result.now ∷ [])
    ∙ ap (λ (ps : List (List ℕ)). c.args.self.now.items ++ ps) (sym (part_more xs c.args.from c.loop-nth.nth c.get.result.now c.get.ensures))

pub returns-in_err-push-clause-some : goal.returns-in_err-push-clause-some
returns-in_err-push-clause-some c = (c.loop-nth.nth, c.in_err-push.ensures.err ∙ c.loop-nth.invariant)

pub returns-clause-some : goal.returns-clause-some
returns-clause-some c = (c.loop-nth.nth, c.loop-nth.invariant)

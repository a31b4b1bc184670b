use Rattle.std.proofs.Common.{◌∙◌, ◌++◌, ◌∷◌, [], ap, arith}
use Rattle.settle.proofs.Entries.{numbers_pushed}
use Rattle.settle.proofs.steps_taken.push_rows.Goals as goal

pub loop-row-preserved : goal.loop-row-preserved
loop-row-preserved c =
    numbers_pushed c.loop-row.list.items c.push_reserved.new.self.items _ c.loop-row.row c.in-Some.rows.last (omega (arith, c.loop-row-test.true))
    (c.push_reserved.ensures.items ∙ ap (λ items. items ++ c.loop-row.row ∷ []) c.reserve.ensures.items) c.loop-row.invariant

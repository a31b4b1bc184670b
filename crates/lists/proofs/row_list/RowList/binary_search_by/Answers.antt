use Rattle.std.proofs.Common.{◌+◌, ◌-◌, ◌/◌, ◌≡◌, subst, ◌∙◌, arith}
use Rattle.lists.proofs.Searching.{Narrowed, narrowed_all, narrowed_up, narrowed_down}
use Rattle.lists.proofs.row_list.RowList.binary_search_by.Goals as goal

pub loop-low-init : goal.loop-low-init
loop-low-init g c =
    (omega arith, omega arith, c.requires, λ ord h. (h, narrowed_all ord c.args.self.now.items _ c.len-high.ensures))

pub loop-low-preserved-in-Less : goal.loop-low-preserved-in-Less
loop-low-preserved-in-Less g c =
    let xs = c.args.self.now.items in let low = c.loop-low.low in let high = c.loop-low.high in let middle = low + (high - low) / 2 in
    (omega arith, omega arith, c.call_at.ensures.callable, λ ord h. let i = c.loop-low.invariant.3 ord h in let n = c.call_at.ensures.answer ord i.0 in (n.0, narrowed_up ord xs low high middle (omega arith) (λ d. n.1 d ∙ c.in-Less.is) i.1))

pub loop-low-preserved : goal.loop-low-preserved
loop-low-preserved g c =
    let xs = c.args.self.now.items in let low = c.loop-low.low in let high = c.loop-low.high in let middle = low + (high - low) / 2 in
    (omega arith, omega arith, c.call_at.ensures.callable, λ ord h. let i = c.loop-low.invariant.3 ord h in let n = c.call_at.ensures.answer ord i.0 in (n.0, narrowed_down ord xs low high middle (λ d. n.1 d ∙ c.in-Greater.is) i.1))

pub returns-in-Equal : goal.returns-in-Equal
returns-in-Equal g c =
    record { bound = omega arith; position = λ ord h. let i = c.loop-low.invariant.3 ord h in let n = c.call_at.ensures.answer ord i.0 in λ d. n.1 d ∙ c.in-Equal.is }

pub returns : goal.returns
returns g c =
    let xs = c.args.self.now.items in let low = c.loop-low.low in let high = c.loop-low.high in
    let met : high ≡ low = omega arith in
    record { bound = omega arith; position = λ ord h. subst (Narrowed ord xs low) met (c.loop-low.invariant.3 ord h).1 }

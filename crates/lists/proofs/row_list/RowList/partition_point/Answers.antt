use Rattle.std.proofs.Common.{◌+◌, ◌-◌, ◌/◌, ◌≡◌, subst, ◌∙◌, arith}
use Rattle.lists.proofs.Searching.{Parted, parted_all, parted_up, parted_down}
use Rattle.lists.proofs.row_list.RowList.partition_point.Goals as goal

pub loop-low-init : goal.loop-low-init
loop-low-init g c =
    (omega arith, omega arith, c.requires, λ p h. (h, parted_all p c.args.self.now.items _ c.len-high.ensures))

pub loop-low-preserved-then-call_at : goal.loop-low-preserved-then-call_at
loop-low-preserved-then-call_at g c =
    let xs = c.args.self.now.items in let low = c.loop-low.low in let high = c.loop-low.high in let middle = low + (high - low) / 2 in
    (omega arith, omega arith, c.call_at.ensures.callable, λ p h. let i = c.loop-low.invariant.3 p h in let n = c.call_at.ensures.answer p i.0 in (n.0, parted_up p xs low high middle (omega arith) (λ d. n.1 d ∙ c.if-call_at.true) i.1))

pub loop-low-preserved : goal.loop-low-preserved
loop-low-preserved g c =
    let xs = c.args.self.now.items in let low = c.loop-low.low in let high = c.loop-low.high in let middle = low + (high - low) / 2 in
    (omega arith, omega arith, c.call_at.ensures.callable, λ p h. let i = c.loop-low.invariant.3 p h in let n = c.call_at.ensures.answer p i.0 in (n.0, parted_down p xs low high middle (λ d. n.1 d ∙ c.if-call_at.false) i.1))

pub returns : goal.returns
returns g c =
    let xs = c.args.self.now.items in let low = c.loop-low.low in let high = c.loop-low.high in
    let met : high ≡ low = omega arith in
    record { bound = omega arith; partitioned = λ p h. subst (Parted p xs low) met (c.loop-low.invariant.3 p h).1 }

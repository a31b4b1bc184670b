use Rattle.std.proofs.Common.{ap, arith}
use Rattle.lists.specs.Placed.{listed}
use Rattle.lists.proofs.Placing.{placed_none}
use Rattle.lists.proofs.row_list.RowList.open.Goals as goal

pub invariant_of-result : goal.invariant_of-result
invariant_of-result g c = (
  rw (c.in_ok-with_capacity.ensures.items, c.in_ok-with_capacity-2.ensures.items, c.in_ok-with_capacity-3.ensures.items) (placed_none c.args.room),
  omega arith,
  c.in_ok-with_capacity.ensures.capacity,
  c.in_ok-with_capacity-2.ensures.capacity,
  c.in_ok-with_capacity-3.ensures.capacity,
)

pub returns : goal.returns
returns g c i = record { room = c.args.room; items = (ap (listed c.in_ok-with_capacity.field-0.items) c.in_ok-with_capacity-2.ensures.items) i }

use Rattle.std.proofs.Common.{List, length, nat_lt, rules, ap, arith}
use Rattle.std.proofs.lemmas.List.Sorted.{IsPartitionPoint-from_clause, IsPartitionedBy-ltb}
use Rattle.version_chain.specs.declared.stamp_list.Kept.{Kept}
use Rattle.version_chain.specs.Place.{least_of}
use Rattle.version_chain.specs.Listing.{EndsBelow}
use Rattle.version_chain.proofs.StampParts.{not_below_range}
use Rattle.version_chain.proofs.stamp_list.StampList.within.Goals as goal
use Rattle.version_chain.proofs.stamp_list.StampList.within.Goals.{After-partition_point-first}

low : (c : After-partition_point-first) → EndsBelow c.deref.result.now (least_of c.args.bound.now) c.partition_point-first.result
low c = IsPartitionPoint-from_clause (λ (k : Kept). nat_lt k.stamp (least_of c.args.bound.now)) c.deref.result.now c.partition_point-first.result c.partition_point-first.ensures.partitioned
    (IsPartitionedBy-ltb (λ (k : Kept). k.stamp) c.deref.result.now (least_of c.args.bound.now) (rw c.deref.ensures.value c.self.invariant.0)) (λ a r f called. search rules)

pub returns : goal.returns
returns c =
    let a = (goal.at.returns c).After-partition_point-first in
    rw (c.deref-2.ensures.value, ← c.self.view_is)
    (not_below_range c.self.inside.kept.items (least_of c.args.bound.now) c.partition_point-first.result
    (omega (arith, c.partition_point-first.ensures.bound, ap (λ (xs : List Kept). length xs) c.deref.ensures.value))
    (rw c.deref.ensures.value at (low a)))

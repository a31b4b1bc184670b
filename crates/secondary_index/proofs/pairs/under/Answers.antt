use Rattle.std.proofs.Common.{rules, ◌≤◌, arith}
use Rattle.std.specs.List.Sorted.{IsPartitionPoint}
use Rattle.std.specs.Ordering.{is_lt, is_le}
use Rattle.std.proofs.Common.{◌≡◌, true, false}
use Rattle.std.proofs.lemmas.List.Sorted.{IsPartitionPoint-from_clause}
use Rattle.stamps.specs.Key.{key_cmp}
use Rattle.secondary_index.specs.declared.pairs.Pair.{Pair}
use Rattle.secondary_index.proofs.Members.{parted_below, parted_at_most, first-end, under_range}
use Rattle.secondary_index.proofs.pairs.under.Goals as goal
use Rattle.secondary_index.proofs.pairs.under.Goals.{After-partition_point-end}

-- where the pairs with the tag begin and end
first : (c : After-partition_point-end) → IsPartitionPoint (λ (p : Pair). is_lt (key_cmp p.tag c.args.tag.now) ≡ true) (λ (p : Pair). is_lt (key_cmp p.tag c.args.tag.now) ≡ false) c.args.pairs.now.items c.partition_point-first.result
first c = IsPartitionPoint-from_clause (λ (p : Pair). is_lt (key_cmp p.tag c.args.tag.now)) c.args.pairs.now.items c.partition_point-first.result c.partition_point-first.ensures.partitioned (parted_below c.args.pairs.now.items c.args.tag.now c.requires) (λ a r f called. search rules)

end : (c : After-partition_point-end) → IsPartitionPoint (λ (p : Pair). is_le (key_cmp p.tag c.args.tag.now) ≡ true) (λ (p : Pair). is_le (key_cmp p.tag c.args.tag.now) ≡ false) c.args.pairs.now.items c.partition_point-end.result
end c = IsPartitionPoint-from_clause (λ (p : Pair). is_le (key_cmp p.tag c.args.tag.now)) c.args.pairs.now.items c.partition_point-end.result c.partition_point-end.ensures.partitioned (parted_at_most c.args.pairs.now.items c.args.tag.now c.requires) (λ a r f called. search rules)

ordered : (c : After-partition_point-end) → c.partition_point-first.result ≤ c.partition_point-end.result
ordered c = first-end c.args.pairs.now.items c.args.tag.now c.requires c.partition_point-first.result c.partition_point-end.result (first c) (end c) c.partition_point-first.ensures.bound

pub overflow_sub-result : goal.overflow_sub-result
overflow_sub-result c = ordered (goal.at.overflow_sub-result c).After-partition_point-end

pub returns-clause-within : goal.returns-clause-within
returns-clause-within c =
    omega (arith, ordered (goal.at.returns-clause-within c).After-partition_point-end, c.partition_point-end.ensures.bound)

pub returns-clause-pairs : goal.returns-clause-pairs
returns-clause-pairs c =
    let a = (goal.at.returns-clause-pairs c).After-partition_point-end in
    under_range c.args.pairs.now.items c.args.tag.now c.requires c.partition_point-first.result c.partition_point-end.result (first a) (end a) c.partition_point-first.ensures.bound c.partition_point-end.ensures.bound

use Rattle.std.proofs.Common.{◌≡◌, ◌≤◌, vec_len, vec_capacity}
use Rattle.closed_store.specs.Filling.{AreEmpty}
use Rattle.closed_store.proofs.join.filling.empty_lists.Given as goal

abbrev pub invariant-loop-nth : goal.invariant-loop-nth
invariant-loop-nth l = record {
  lists : AreEmpty l.lists.items;
  count : vec_len l.lists ≡ l._nth;
  room : l.count ≤ vec_capacity l.lists;
}

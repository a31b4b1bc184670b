use Rattle.std.proofs.Common.{◌≡◌, ◌≤◌, sum_by, take}
use Rattle.stamps.specs.declared.bounds.Limits.{Limits}
use Rattle.partition.proofs.shelf.slots_in_all.Given as goal

abbrev pub invariant-loop-its : goal.invariant-loop-its
invariant-loop-its l = record {
  sum : l.sum ≡ sum_by (λ (its : Limits). its.slots) (take l.its-index l.limits);
  few : l.sum ≤ 4194304;
}

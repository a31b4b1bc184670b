use Rattle.std.proofs.Common.{◌≡◌, ◌≤◌, length, take}
use Rattle.std.specs.Prelude.{count_by}
use Rattle.partition.specs.Accounts.{is_of_collector}
use Rattle.partition.proofs.event_list.EventList.of_collector.Given as goal

abbrev pub invariant-loop-at : goal.invariant-loop-at
invariant-loop-at l = record {
  counted : l.count ≡ count_by is_of_collector (take l.at l.self.items);
  few : l.count ≤ l.at;
  within : l.at ≤ length l.self.items;
}

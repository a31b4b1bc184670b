use Rattle.std.proofs.Common.{◌≡◌, take}
use Rattle.partition.specs.Accounts.{is_of_seat, is_of_collector}
use Rattle.closed_store.specs.Counting.{counted_with, events_given}
use Rattle.closed_store.proofs.join.adding.counts_of.Given as goal

abbrev pub invariant-loop-partition : goal.invariant-loop-partition
invariant-loop-partition l =
    (l.counts.of_seats ≡ counted_with 0 (events_given is_of_seat (take l.partition-index l.given) l.place))
    × (l.counts.of_collector ≡ counted_with 0 (events_given is_of_collector (take l.partition-index l.given) l.place))

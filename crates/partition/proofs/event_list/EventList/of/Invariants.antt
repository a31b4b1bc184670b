use Rattle.std.proofs.Common.{◌≡◌, take}
use Rattle.partition.proofs.event_list.EventList.of.Given as goal

abbrev pub invariant-loop-event : goal.invariant-loop-event
invariant-loop-event l = l.list.items ≡ take l.event-index l.events

use Rattle.closed_store.specs.Filling.{AreGathered}
use Rattle.closed_store.proofs.join.filling.gather.Given as goal

abbrev pub invariant-loop-seat : goal.invariant-loop-seat
invariant-loop-seat l = AreGathered l.places l.yielded l.count l.lists.items

use Rattle.std.proofs.Common.{take}
use Rattle.closed_store.proofs.Risen.{HasLasts, RiseBelow}
use Rattle.closed_store.proofs.join.rising.do_rise.Given as goal

abbrev pub invariant-loop-at : goal.invariant-loop-at
invariant-loop-at l = HasLasts l.lasts (take l.at l.events.items) × RiseBelow l.events.items l.at

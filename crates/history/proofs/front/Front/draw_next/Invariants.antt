use mathlib.Core.List.{IsPrefix}
use Rattle.history.proofs.front.Front.draw_next.Given as goal

abbrev pub invariant-loop : goal.invariant-loop
invariant-loop g l = IsPrefix l.fn.self l.self

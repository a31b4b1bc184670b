use Rattle.std.proofs.Common.{◌+◌, ◌≤◌}
use mathlib.Core.List.{IsPrefix}
use Rattle.history.specs.Entries.{count}
use Rattle.history.proofs.front.Front.tell.Given as goal

-- the clock went on each time
abbrev pub invariant-loop-tried : goal.invariant-loop-tried
invariant-loop-tried g l = record {
  later : IsPrefix l.fn.self l.self;
  faster : count l.clock.key l.fn.self + l._tried ≤ count l.clock.key l.self;
}

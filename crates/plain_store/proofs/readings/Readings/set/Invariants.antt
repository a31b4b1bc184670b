use Rattle.std.proofs.Common.{◌≡◌, ◌++◌, length, take, drop}
use Rattle.plain_store.proofs.readings.Readings.set.Given as goal

-- those so far are written over, and those behind them are as they were
abbrev pub invariant-loop-at : goal.invariant-loop-at
invariant-loop-at l = l.self ≡ take l.at l.readings ++ drop l.at (take (length l.readings) l.fn.self)

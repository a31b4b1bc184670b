use Rattle.std.proofs.Common.{◌≡◌, take}
use Rattle.prepare_commit.proofs.held.Held.is.Given as goal

abbrev pub invariant-loop-nth : goal.invariant-loop-nth
invariant-loop-nth l = take l.nth l.self ≡ take l.nth l.other

use Rattle.std.proofs.Common.{◌≡◌, false, take}
use Rattle.std.specs.List.{list_any}
use Rattle.get_all.specs.ReadProgress.{awaits_second}
use Rattle.get_all.proofs.read_progress.ReadProgress.await_second.Given as goal

-- no slot so far awaits it
abbrev pub invariant-loop-i : goal.invariant-loop-i
invariant-loop-i l = list_any (awaits_second l.self l.key) (take l.i l.self) ≡ false

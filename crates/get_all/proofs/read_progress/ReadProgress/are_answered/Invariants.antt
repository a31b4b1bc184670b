use Rattle.std.proofs.Common.{◌≡◌, true, take}
use Rattle.std.specs.List.{list_all}
use Rattle.get_all.specs.ReadProgress.{is_answered_by}
use Rattle.get_all.proofs.read_progress.ReadProgress.are_answered.Given as goal

-- the late keys so far have their versions
abbrev pub invariant-loop-i : goal.invariant-loop-i
invariant-loop-i l = list_all (is_answered_by l.self) (take l.i l.self) ≡ true

use Rattle.std.proofs.Common.{◌≡◌, ◌++◌, length, map, take, drop}
use Rattle.plain_store.specs.Rounds.{reading_of}
use Rattle.get_all.specs.declared.read_progress.KeyProgress.{KeyProgress}
use Rattle.get_all.specs.ReadProgress.{version_by}
use Rattle.get_all.proofs.read_progress.ReadProgress.readings_into.Given as goal

-- the readings so far are those of the slots so far, and those behind them are as they were
abbrev pub invariant-loop-i : goal.invariant-loop-i
invariant-loop-i l =
    l.place ≡ map (λ (slot : KeyProgress). reading_of slot.key (version_by l.self slot)) (take l.i l.slots) ++ drop l.i (take (length l.slots) l.fn.place)

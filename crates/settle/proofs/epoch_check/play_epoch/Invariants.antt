use Rattle.std.proofs.Common.{take}
use Rattle.settle.specs.OneEpoch.{HasPlayed}
use Rattle.settle.proofs.epoch_check.play_epoch.Given as goal

abbrev pub invariant-loop-at : goal.invariant-loop-at
invariant-loop-at l = HasPlayed l.epoch.base (take l.at l.epoch.events.items) l.replica l.lasts

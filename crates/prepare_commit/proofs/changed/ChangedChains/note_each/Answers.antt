use mathlib.Core.Bool.{or-false}
use Rattle.std.proofs.Common.{false, get_or, refl, sym}
use Rattle.prepare_commit.proofs.changed.ChangedChains.note_each.Goals as goal

pub loop-chain-init : goal.loop-chain-init
loop-chain-init c = (refl, λ n. sym (or-false (get_or c.args.self.now n false)))

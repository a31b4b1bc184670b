use Rattle.std.proofs.Common.{◌≡◌, take}
use Rattle.prepare_commit.specs.Begun.{holdings}
use Rattle.prepare_commit.specs.Layout.{chain_lists}
use Rattle.prepare_commit.proofs.copies.has_items.Given as goal

abbrev pub invariant-loop-nth : goal.invariant-loop-nth
invariant-loop-nth l = holdings (take l.nth l.items.items) (chain_lists l.block l.versions.chains) ≡ take l.nth l.held

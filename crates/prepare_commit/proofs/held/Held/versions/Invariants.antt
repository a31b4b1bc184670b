use Rattle.std.proofs.Common.{◌≡◌, take}
use Rattle.prepare_commit.specs.Begun.{lists_in}
use Rattle.prepare_commit.specs.Layout.{together}
use Rattle.prepare_commit.proofs.held.Held.versions.Given as goal

abbrev pub invariant-loop-place : goal.invariant-loop-place
invariant-loop-place l = l.list ≡ together (lists_in (take l.place-index l.self))

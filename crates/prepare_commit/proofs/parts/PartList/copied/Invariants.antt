use Rattle.std.proofs.Common.{◌≡◌, take}
use Rattle.prepare_commit.specs.Sharing.{shared_parts}
use Rattle.prepare_commit.proofs.parts.PartList.copied.Given as goal

abbrev pub invariant-loop-part : goal.invariant-loop-part
invariant-loop-part l = shared_parts l.parts.items ≡ shared_parts (take l.part-index l.part-items)

use Rattle.std.proofs.Common.{◌≡◌, take}
use Rattle.prepare_commit.specs.Begun.{entries_of}
use Rattle.prepare_commit.specs.Sharing.{shared_parts}
use Rattle.prepare_commit.proofs.parts.PartList.entries.Given as goal

abbrev pub invariant-loop-part : goal.invariant-loop-part
invariant-loop-part l = l.sum ≡ entries_of (shared_parts (take l.part-index l.part-items))

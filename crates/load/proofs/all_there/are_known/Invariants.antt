use Rattle.std.proofs.Common.{take}
use Rattle.closed_store.specs.Joins.{AreKnown}
use Rattle.load.proofs.all_there.are_known.Given as goal

-- those so far are known
abbrev pub invariant-loop-part : goal.invariant-loop-part
invariant-loop-part l = AreKnown (take l.part-index l.given) l.rows

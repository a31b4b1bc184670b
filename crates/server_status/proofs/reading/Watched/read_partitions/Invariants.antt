use Rattle.std.specs.Prelude.{IsTrue}
use mathlib.Core.List.{IsPrefix}
use Rattle.server_status.specs.Reported.{AreRowsBefore}
use Rattle.server_status.proofs.reading.Watched.read_partitions.Given as goal

-- those of the partitions so far, while each was there
abbrev pub invariant-loop-partition : goal.invariant-loop-partition
invariant-loop-partition g l = record {
  rows : IsTrue l.is_whole → AreRowsBefore g.C.JournalChecks.has_told l.self l.fn.seen l.seen l.partition l.rows.items;
  later : IsPrefix l.fn.seen l.seen;
}

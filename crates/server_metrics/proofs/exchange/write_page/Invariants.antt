use Rattle.std.proofs.Common.{◌≤◌, length, take}
use Rattle.std.specs.Io.KnownBytes.{Appends}
use Rattle.server_metrics.proofs.exchange.write_page.Given as goal

-- what was written is a front of the page
abbrev pub invariant-loop : goal.invariant-loop
invariant-loop g l = record {
  within : l.written ≤ length l.page;
  so_far : Appends (g.W.Write.contents l.fn.writer) (g.W.Write.contents l.writer) (take l.written l.page);
}

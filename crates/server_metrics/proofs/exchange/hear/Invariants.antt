use Rattle.std.proofs.Common.{◌<◌, take}
use Rattle.std.specs.Io.KnownBytes.{Consumes}
use Rattle.httparse.specs.Grammar.{HasNoRequest}
use Rattle.server_metrics.proofs.exchange.hear.Given as goal

-- what was read fits its place, was taken from the input, and has no request in it
abbrev pub invariant-loop : goal.invariant-loop
invariant-loop g l = record {
  fits : l.len < 8192;
  taken : Consumes (g.R.Read.remaining l.fn.reader) (g.R.Read.remaining l.reader) (take l.len l.bytes);
  none : 0 < l.len → HasNoRequest (take l.len l.bytes);
}

use Rattle.std.proofs.Common.{ap, length, arith, ◌==◌}
use Rattle.memchr.proofs.lemmas.CallerLemmas.{length-places}
use Rattle.server_sessions.specs.LineTiming.{line_feed}
use Rattle.server_sessions.proofs.line_times.lines_in.Goals as goal

pub returns : goal.returns
returns c =
    let none = ap length (c.in-None.ensures).steps.0 in
    let all = length-places (λ byte. byte == line_feed) c.args.bytes.now in
    omega (arith, c.loop-end.invariant.2, none, all)

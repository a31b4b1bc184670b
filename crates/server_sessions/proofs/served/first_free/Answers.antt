use Rattle.std.proofs.Common.{arith}
use Rattle.server_sessions.proofs.Freed.{all_taken, taken_more}
use Rattle.server_sessions.proofs.served.first_free.Goals as goal

pub loop-place-preserved : goal.loop-place-preserved
loop-place-preserved c = taken_more c.args.places.now c.loop-place.place c.index-places-place.result (omega (arith, c.loop-place-test.true, c.loop-place.auto)) c.loop-place.invariant c.index-places-place.is c.is_none.result c.is_none.ensures c.if-is_none.false

pub returns-clause-none : goal.returns-clause-none
returns-clause-none c = all_taken c.args.places.now c.loop-place.place (omega (arith, c.loop-place-test.false, c.loop-place.auto)) c.loop-place.invariant

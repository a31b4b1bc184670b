use Rattle.std.proofs.Common.{arith, refl}
use Rattle.server_sessions.proofs.Freed.{all_free, free_more}
use Rattle.server_sessions.proofs.served.are_free.Goals as goal

pub loop-place-preserved : goal.loop-place-preserved
loop-place-preserved c = free_more c.args.places.now c.loop-place.place c.index-places-place.result (omega (arith, c.loop-place-test.true, c.loop-place.auto)) c.loop-place.invariant c.index-places-place.is c.is_some.result c.is_some.ensures c.if-is_some.false

pub returns : goal.returns
returns c = (λ yes. all_free c.args.places.now c.loop-place.place (omega (arith, c.loop-place-test.false, c.loop-place.auto)) c.loop-place.invariant, λ free. refl)

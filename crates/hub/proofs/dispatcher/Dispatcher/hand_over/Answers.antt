use Rattle.std.proofs.Common.{ap, arith, vec_len}
use Rattle.hub.proofs.dispatcher.Dispatcher.hand_over.Goals as goal

-- an end is left for each that was not served
pub enqueue-requires : goal.enqueue-requires
enqueue-requires g c = omega (arith, c.requires, c.loop-taken.invariant.taken, c.loop-taken.invariant.ends, c.in-Some.ensures.left, ap vec_len c.in-Some.ensures.room.ends)

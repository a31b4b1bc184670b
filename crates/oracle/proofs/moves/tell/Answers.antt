use Rattle.std.proofs.Common.{arith}
use Rattle.plain_store.proofs.SearchesAsk.{length-carrying}
use Rattle.oracle.proofs.moves.tell.Goals as goal

pub unwrap-requires-in-Some : goal.unwrap-requires-in-Some
unwrap-requires-in-Some c =
    let fewer = length-carrying c.in-Some.tag c.args.readings.now in
    let few = c.requires in
    c.of-in-Some.ensures.exact.1 (rw (c.deref.ensures.value, c.in_ok-carrying-in-Some.ensures) (omega (arith, fewer, few)))

use Rattle.std.proofs.Common.{◌≡◌, length, arith, subst}
use Rattle.settle.specs.Sessions.{AreBefore}
use Rattle.settle.proofs.session_order.before_in_turn.Goals as goal

pub returns : goal.returns
returns c =
    let all : c.loop-place.place ≡ length c.args.transcripts.now = omega arith in
    subst (λ n. AreBefore c.args.transcripts.now c.args.tenant n c.loop-place.before.items) all c.loop-place.invariant.before

use Rattle.std.proofs.Common.{arith, ap, ◌∙◌, count_by}
use Rattle.plain_store.specs.Replies.{is_droppable}
use Rattle.plain_store.proofs.Rooms.{counted_within}
use Rattle.oracle.proofs.replies.discard_reply.Goals as goal

pub overflow_cast-result : goal.overflow_cast-result
overflow_cast-result c =
    let p = is_droppable c.args.log.now c.args.stamp in
    let counted = c.count_droppable.ensures.value ∙ ap (count_by p) (c.deref.ensures.value ∙ c.in_ok-kept.ensures) in
    omega (arith, counted, counted_within c.args.room.now c.args.log.now p c.requires, ap (λ r. r.slots) c.room.view_is)

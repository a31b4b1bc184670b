use Rattle.std.proofs.Common.{arith, ap, ◌∙◌, ◌==◌, count_by}
use Rattle.stamps.specs.Record.{Record}
use Rattle.plain_store.proofs.Rooms.{kept_within, counted_within}
use Rattle.oracle.proofs.replies.reply_after.Goals as goal

pub overflow_cast-result : goal.overflow_cast-result
overflow_cast-result c =
    let p = λ (v : Record). v.stamp == c.in-Commit.stamp in
    let counted = c.count_stamp.ensures.value ∙ ap (count_by p) (c.deref.ensures.value ∙ c.in_ok-kept-in-Commit.ensures) in
    omega (arith, counted, counted_within c.args.room.now c.args.log.now p c.requires, ap (λ r. r.slots) c.room.view_is)

pub overflow_cast-result-in-Collect : goal.overflow_cast-result-in-Collect
overflow_cast-result-in-Collect c =
    omega (arith, c.in_ok-count_freed-in-Collect.ensures, kept_within c.args.room.now c.args.log.now c.requires, ap (λ r. r.slots) c.room.view_is)

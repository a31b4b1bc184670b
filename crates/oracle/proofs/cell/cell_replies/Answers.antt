use Rattle.plain_store.specs.Replies.{log_of}
use Rattle.plain_store.proofs.Rooms.{log_of-IsSound, log_of-more}
use Rattle.oracle.proofs.cell.cell_replies.Goals as goal

pub loop-call-init : goal.loop-call-init
unfolding log_of
loop-call-init c = c.new-log.ensures.items

pub reply_after-requires : goal.reply_after-requires
reply_after-requires c = rw (c.deref.ensures.value, c.loop-call.invariant) (log_of-IsSound _ _)

pub loop-call-preserved : goal.loop-call-preserved
loop-call-preserved c =
    log_of-more (record { slots = c.args.slots; items = c.args.items; clients = c.args.clients }) c.args.calls.now c.loop-call.call-index c.call-item.result c.in_ok-reply.reply c.loop-call.log.items
    c.loop-call.invariant c.loop-call-test.true c.call-item.is c.deref.ensures.value c.in_ok-reply.ensures c.deref-in-loop-call.ensures.value c.in_ok-log.ensures

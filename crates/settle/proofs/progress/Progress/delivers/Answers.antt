use Rattle.std.proofs.Common.{sym, ◌∙◌}
use Rattle.settle.specs.Trace.{after, acts_of}
use Rattle.settle.proofs.Transcripts.{delivers_it, delivers_none}
use Rattle.settle.proofs.progress.Progress.delivers.Goals as goal

-- the reply that is delivered is the one that was taken
pub returns-in-Some-reply_delivered : goal.returns-in-Some-reply_delivered
returns-in-Some-reply_delivered c input trace plays has =
    delivers_it (after input trace) c.args.act.now c.args.reply.now c.in-Some.taken c.in-Some-reply_delivered.delivered c.is_reply.result c.in-Some.is
    (sym (c.reply_delivered.ensures input (acts_of input trace) (after input trace) plays has) ∙ c.in-Some-reply_delivered.is) c.is_reply.ensures

pub returns-in-None : goal.returns-in-None
returns-in-None c input trace plays has =
    delivers_none (after input trace) c.args.act.now c.args.reply.now c.in-Some.taken c.in-Some.is
    (sym (c.reply_delivered.ensures input (acts_of input trace) (after input trace) plays has) ∙ c.in-None.is)

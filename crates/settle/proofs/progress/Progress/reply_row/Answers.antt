use Rattle.std.proofs.Common.{ap, sym, ◌∙◌}
use Rattle.std.proofs.lemmas.Bool.{both_ways}
use Rattle.std.proofs.lemmas.Option.{slice_get_read}
use Rattle.settle.specs.Input.{input_of}
use Rattle.settle.specs.Program.{at_place}
use Rattle.settle.proofs.Choices.{replies_by}
use Rattle.settle.proofs.progress.Progress.reply_row.Goals as goal

pub returns-then-not-is_event_of : goal.returns-then-not-is_event_of
returns-then-not-is_event_of c trace noted row replies =
    both_ways c.is_event_of.result c.if-not-is_event_of.true
    ((c.is_event_of.ensures c.args.self.now.replay.limits).1 replies.0)

pub returns : goal.returns
returns c trace noted =
    let input = input_of c.args.closed.now c.args.tenant c.args.self.now.replay.limits in
    let at = slice_get_read c.args.self.now.replies.items _ c.args.partition c.index.result.now (sym c.requires.sized.replies) c.if-partition-closed.false c.index.ensures in
    let same = c.as_slice.ensures.value ∙ noted.replies c.args.partition c.index.result.now at in
    replies_by input trace c.args.seat c.args.number c.args.partition c.args.place c.at_place.result
    ((c.is_event_of.ensures c.args.self.now.replay.limits).0 c.if-not-is_event_of.false)
    (c.at_place.ensures ∙ ap (λ rows. at_place rows c.args.place) same)

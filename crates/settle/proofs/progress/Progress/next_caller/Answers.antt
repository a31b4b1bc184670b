use Rattle.std.proofs.Common.{sym, ap, ◌∙◌, slice_get}
use Rattle.std.proofs.lemmas.Option.{slice_get_read}
use Rattle.std.specs.Option.{option_map}
use Rattle.partition.specs.PackedEvents.{caller_of}
use Rattle.settle.specs.Input.{input_of, events_of_partition}
use Rattle.settle.proofs.Journals.{next_noted}
use Rattle.settle.proofs.progress.Progress.next_caller.Goals as goal

pub returns : goal.returns
returns c trace noted =
    let input = input_of c.args.closed.now c.args.tenant c.args.self.now.replay.limits in
    let at = slice_get_read c.args.self.now.replies.items _ c.args.partition c.index.result.now (sym c.requires.sized.replies) c.requires.partition c.index.ensures in
    c.caller_after.ensures c.args.self.now.replay.limits
    ∙ ap (λ n. option_map caller_of (slice_get (events_of_partition input c.args.partition) n)) (c.len.ensures ∙ c.index.result.now.ok.0 ∙ next_noted input trace c.args.self.now c.args.partition c.index.result.now noted at)

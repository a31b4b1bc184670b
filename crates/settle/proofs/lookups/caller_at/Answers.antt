use Rattle.std.proofs.Common.{ap, ◌∙◌}
use Rattle.std.specs.Option.{option_map}
use Rattle.partition.specs.PackedEvents.{caller_of}
use Rattle.settle.specs.Input.{input_of, events_of_partition}
use Rattle.settle.proofs.Looked.{at_before}
use Rattle.settle.proofs.lookups.caller_at.Goals as goal

pub returns : goal.returns
returns c limits =
    c.caller_after.ensures limits
    ∙ ap (option_map caller_of) (at_before (events_of_partition (input_of c.args.closed.now c.args.tenant limits) c.args.partition) c.args.place c.if-place-eq0.false)

use Rattle.std.proofs.Common.{◌<◌, ◌≤◌, length, set, ap, sym, ◌∙◌, arith}
use Rattle.std.proofs.lemmas.List.Edits.{map_over_more}
use Rattle.plain_store.proofs.Marking.{mapped_all}
use Rattle.get_all.specs.ReadProgress.{with_second}
use Rattle.get_all.proofs.read_progress.take_second.Goals as goal

pub loop-slot-preserved : goal.loop-slot-preserved
loop-slot-preserved c =
    let mark = with_second c.args.key.now c.args.version.now in
    let within : c.loop-slot.slot-index < length c.args.slots.now = omega arith in
    ap (set c.loop-slot.slots c.loop-slot.slot-index) (c.take_second.ensures ∙ ap mark (sym c.slot-item.is))
    ∙ map_over_more mark c.args.slots.now c.loop-slot.slots c.loop-slot.slot-index c.slot-item.result within c.loop-slot.invariant c.slot-item.is

pub returns : goal.returns
returns c =
    let mark = with_second c.args.key.now c.args.version.now in
    let past : length c.args.slots.now ≤ c.loop-slot.slot-index = omega arith in
    mapped_all mark c.args.slots.now c.loop-slot.slots c.loop-slot.slot-index past c.loop-slot.invariant

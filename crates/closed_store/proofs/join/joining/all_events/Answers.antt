use Rattle.std.proofs.Common.{◌∙◌, ◌++◌, List, ap, map, Bor}
use Rattle.partition.specs.Events.{Event}
use Rattle.partition.specs.declared.journal.Epoch.{Epoch}
use Rattle.closed_store.proofs.Replayed.{read_at, events_more}
use Rattle.closed_store.proofs.join.joining.all_events.Goals as goal

pub loop-epoch-preserved : goal.loop-epoch-preserved
loop-epoch-preserved c =
    let e = c.epoch-item.result in
    let k = c.loop-epoch.epoch-index in
    let epochs = map (λ (b : Bor Epoch). b.now) c.args.epochs.now in
    let at = read_at (λ (b : Bor Epoch). b.now) c.args.epochs.now k e c.loop-epoch-test.true c.epoch-item.is in
    c.in_ok-append.ensures.ok
    ∙ ap (λ (es : List Event). es ++ e.now.events.items) c.loop-epoch.invariant
    ∙ events_more epochs k e.now at

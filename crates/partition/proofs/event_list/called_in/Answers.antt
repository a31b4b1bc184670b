use Rattle.std.proofs.Common.{◌≡◌, ℕ, List, ap, ◌∙◌}
use Rattle.plain_store.specs.declared.calls.Call.{Call}
use Rattle.partition.specs.Events.{event}
use Rattle.partition.specs.PackedEvents.{event_in, reply_in}
use Rattle.partition.proofs.Unpacking.{called_again, is_packed_reply, reply_is, some_told, told_of}
use Rattle.partition.proofs.event_list.called_in.Goals as goal

pub unwrap-seat-requires : goal.unwrap-seat-requires
unwrap-seat-requires c = some_told _ c.called_at.result _ (c.called_at.ensures ∙ called_again c.args.bytes.now c.requires)

pub invariant_of-result : goal.invariant_of-result
invariant_of-result c =
    let e = event_in c.args.bytes.now in
    let parts = told_of _ c.called_at.result c.unwrap-seat.result _ c.unwrap-seat.ensures (c.called_at.ensures ∙ called_again c.args.bytes.now c.requires) in
    is_packed_reply e.reply c.unwrap-seat.result.2.now c.requires.0.reply (ap (λ (p : ℕ × ℕ × Call × List ℕ). p.3) parts)

pub returns : goal.returns
returns c =
    let e = event_in c.args.bytes.now in
    let parts = told_of _ c.called_at.result c.unwrap-seat.result _ c.unwrap-seat.ensures (c.called_at.ensures ∙ called_again c.args.bytes.now c.requires) in
    let reply : reply_in c.unwrap-seat.result.2.now ≡ e.reply = ap (λ (p : ℕ × ℕ × Call × List ℕ). reply_in p.3) parts ∙ reply_is e.reply c.requires.0.reply in
    λ i. event (parts i).0 (parts i).1 (parts i).2 (reply i)

use Rattle.std.proofs.Common.{◌≡◌, ℕ, List, ◌++◌, sym, ap, ◌∙◌}
use Rattle.packed_steps.specs.PackedCalls.{packed_reply}
use Rattle.partition.proofs.Unpacking.{packed_apart}
use Rattle.partition.proofs.packed_reply.PackedReply.is.Goals as goal

pub returns : goal.returns
returns c =
    let reply = c.args.reply.now in
    let bytes = c.self.inside.bytes.now in
    let laid : c.as_slice.result.now ≡ packed_reply reply =
    c.as_slice.ensures.value ∙ c.put_reply.ensures.packed ∙ ap (λ (xs : List ℕ). xs ++ packed_reply reply) c.clear.ensures.items in (
      λ same. sym c.self.view_is ∙ packed_apart bytes reply c.self.invariant c.put_reply.ensures.stored (c.are_bytes.ensures.0 same ∙ laid),
      λ same. c.are_bytes.ensures.1 (c.self.invariant.1 ∙ ap packed_reply (c.self.view_is ∙ same) ∙ sym laid),
    )

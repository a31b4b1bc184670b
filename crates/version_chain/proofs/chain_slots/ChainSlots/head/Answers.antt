use Rattle.std.proofs.Common.{◌<◌, length, ap, ◌∙◌, arith}
use Rattle.std.proofs.lemmas.List.{length-map}
use Rattle.version_chain.specs.ChainSlots.{SlotLists}
use Rattle.version_chain.specs.declared.chain_slots.ChainSlot.{ChainSlot}
use Rattle.version_chain.proofs.BothSlots.{head_is}
use Rattle.version_chain.proofs.chain_slots.ChainSlots.head.Goals as goal

pub index-requires : goal.index-requires
index-requires c = omega (arith, c.requires, ap (λ (l : SlotLists). length l.heads) c.self.view_is, length-map c.self.inside.slots.items (λ (s : ChainSlot). s.head))

pub returns : goal.returns
returns c =
    let xs = c.self.inside.slots.items in
    let known : c.args.chain < length xs = omega (arith, c.requires, ap (λ (l : SlotLists). length l.heads) c.self.view_is, length-map xs (λ (s : ChainSlot). s.head)) in
    rw (← c.self.view_is) (c.get.ensures ∙ head_is xs c.args.chain c.index.result.now known c.index.ensures)

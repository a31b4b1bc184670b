use Rattle.std.proofs.Common.{◌<◌, length, ap, ◌∙◌, arith}
use Rattle.std.proofs.lemmas.List.{length-map}
use Rattle.version_chain.specs.ChainSlots.{SlotLists}
use Rattle.version_chain.specs.declared.chain_slots.ChainSlot.{ChainSlot}
use Rattle.version_chain.proofs.BothSlots.{latest_is}
use Rattle.version_chain.proofs.chain_slots.ChainSlots.latest.Goals as goal

pub index-requires : goal.index-requires
index-requires c = omega (arith, c.requires, ap (λ (l : SlotLists). length l.latest) c.self.view_is, length-map c.self.inside.slots.items (λ (s : ChainSlot). s.latest))

pub returns : goal.returns
returns c =
    let xs = c.self.inside.slots.items in
    let known : c.args.chain < length xs = omega (arith, c.requires, ap (λ (l : SlotLists). length l.latest) c.self.view_is, length-map xs (λ (s : ChainSlot). s.latest)) in
    rw (← c.self.view_is) (c.get.ensures ∙ latest_is xs c.args.chain c.index.result.now known c.index.ensures)

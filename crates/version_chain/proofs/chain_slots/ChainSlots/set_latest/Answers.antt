use Rattle.std.proofs.Common.{◌<◌, length, ap, arith}
use Rattle.std.proofs.lemmas.List.{length-map, map-set}
use Rattle.version_chain.specs.ChainSlots.{SlotLists}
use Rattle.version_chain.specs.declared.chain_slots.ChainSlot.{ChainSlot}
use Rattle.version_chain.proofs.BothSlots.{heads_stay}
use Rattle.version_chain.proofs.chain_slots.ChainSlots.set_latest.Goals as goal

pub index_mut-requires : goal.index_mut-requires
index_mut-requires c = omega (arith, c.requires, ap (λ (l : SlotLists). length l.latest) c.self.view_is, length-map c.self.inside.slots.items (λ (s : ChainSlot). s.latest))

pub returns : goal.returns
returns c =
    let xs = c.self.inside.slots.items in
    let old = c.index_mut.result.now in
    let known : c.args.chain < length xs = omega (arith, c.requires, ap (λ (l : SlotLists). length l.latest) c.self.view_is, length-map xs (λ (s : ChainSlot). s.latest)) in
    let heads = heads_stay xs c.args.chain old known c.index_mut.ensures.value c.args.latest in
    let latest = map-set (λ (s : ChainSlot). s.latest) xs c.args.chain (record { head = old.head; latest = c.args.latest }) in
    rw (← c.self.view_is, c.new.ensures) (λ i. record { heads = heads i; latest = latest i })

use Rattle.std.proofs.Common.{◌≡◌, ◌+◌, ◌<◌, ◌++◌, ◌∷◌, [], Bool, false, List, length, get_or, take, Some, refl, sym, ap, subst, ◌∙◌, arith}
use Rattle.prepare_commit.specs.declared.items.ChainedItem.{ChainedItem}
use Rattle.prepare_commit.specs.Begun.{Holding, IsAsBegun, held_at, holding_of, holdings, none_held, no_place}
use Rattle.prepare_commit.specs.Layout.{chain_lists}
use Rattle.prepare_commit.specs.Remembered.{is_changed}
use Rattle.prepare_commit.specs.Spots.{begun_by}
use Rattle.std.proofs.lemmas.Bool.{both_ways}
use Rattle.std.proofs.lemmas.List.{take_more}
use Rattle.prepare_commit.proofs.Chaining.{has_chain}
use Rattle.prepare_commit.proofs.Holding.{holdings_at, holdings_more}
use Rattle.prepare_commit.proofs.Places.{as_many, lies_there, known_there}
use Rattle.prepare_commit.proofs.copies.has_items.Goals as goal
use Rattle.prepare_commit.proofs.copies.has_items.Goals.{else-not-is_known-via-then-not-is_known+in_ok-has_item+else-not-branch, else-not-is_known-via-else-not-is_known}

pub has_item-requires-clause-chain : goal.has_item-requires-clause-chain
has_item-requires-clause-chain c =
    let i = c.get-item.result.now in
    let known = c.requires.known c.loop-nth.nth i (omega (arith, c.loop-nth-test.true, c.if-len-places.false, c.len.ensures)) in
    has_chain c.args.block.now c.args.versions.now.chains i.chain c.requires.stands (omega (arith, known, ap (λ (j : ChainedItem). j.chain) c.get-item.ensures))

pub has_item-requires-clause-place : goal.has_item-requires-clause-place
has_item-requires-clause-place c =
    let chains = chain_lists c.args.block.now c.args.versions.now.chains in
    let items = c.args.items.now.items in
    let held = c.args.held.now in
    let parts = c.parts.result.0.now in
    let places = c.parts.result.1.now in
    let k = c.loop-nth.nth in
    let i = c.get-item.result.now in
    let less : k < length held = omega (arith, c.loop-nth-test.true, as_many parts places held c.parts.ensures) in
    let h = get_or held k none_held in
    let at : held_at parts (get_or places k no_place) ≡ Some h = lies_there parts places held c.parts.ensures k no_place none_held less in
    (h, at)

pub returns-then-not-branch : goal.returns-then-not-branch
returns-then-not-branch c =
    let chains = chain_lists c.args.block.now c.args.versions.now.chains in
    let items = c.args.items.now.items in
    let held = c.args.held.now in
    let parts = c.parts.result.0.now in
    let places = c.parts.result.1.now in
    let k = c.loop-nth.nth in
    let i = c.get-item.result.now in
    let less : k < length held = omega (arith, c.loop-nth-test.true, as_many parts places held c.parts.ensures) in
    let h = get_or held k none_held in
    let at : held_at parts (get_or places k no_place) ≡ Some h = lies_there parts places held c.parts.ensures k no_place none_held less in
    let within : k < length items = omega (arith, c.loop-nth-test.true, c.if-len-places.false, c.len.ensures) in
    let its : get_or (holdings items chains) k none_held ≡ holding_of chains i = holdings_at items chains k i none_held within ∙ ap (holding_of chains) (sym c.get-item.ensures) in (
      λ no. absurd (both_ways false refl no),
      λ same. absurd (both_ways c.in_ok-has_item.field-0 c.if-not-branch.true ((c.in_ok-has_item.ensures h at).1 (sym its ∙ ap (λ (all : List Holding). get_or all k none_held) same))),
    )

pub loop-nth-preserved : goal.loop-nth-preserved
loop-nth-preserved c =
    let chains = chain_lists c.args.block.now c.args.versions.now.chains in
    let items = c.args.items.now.items in
    let held = c.args.held.now in
    let parts = c.parts.result.0.now in
    let places = c.parts.result.1.now in
    let k = c.loop-nth.nth in
    let i = c.get-item.result.now in
    let less : k < length held = omega (arith, c.loop-nth-test.true, as_many parts places held c.parts.ensures) in
    let h = get_or held k none_held in
    let at : held_at parts (get_or places k no_place) ≡ Some h = lies_there parts places held c.parts.ensures k no_place none_held less in
    let within : k < length items = omega (arith, c.loop-nth-test.true, c.if-len-places.false, c.len.ensures) in
    let its : get_or (holdings items chains) k none_held ≡ holding_of chains i = holdings_at items chains k i none_held within ∙ ap (holding_of chains) (sym c.get-item.ensures) in
    let step : holding_of chains i ≡ h → holdings (take (k + 1) items) chains ≡ take (k + 1) held = λ same.
    holdings_more items chains k i within
    ∙ (λ j. c.loop-nth.invariant j ++ (ap (holding_of chains) (sym c.get-item.ensures) ∙ same) j ∷ [])
    ∙ sym (take_more held k none_held less) in
    elim c.else-not-is_known.branch [
      | else-not-is_known-via-then-not-is_known+in_ok-has_item+else-not-branch w ↦ step ((w.in_ok-has_item.ensures h at).0 w.if-not-branch.false)
      | else-not-is_known-via-else-not-is_known w ↦
          let known = c.is_known.ensures in
          let yes = w.if-not-is_known.false in
          let part = (get_or places k no_place).part in
          let same = c.in_ok-same.ensures part (ap (λ (flags : List Bool). get_or flags part false) (sym c.deref.ensures.value) ∙ known.part yes) in
          let free = known.free yes in
          let was : held_at c.args.last.now.parts (get_or c.args.last.now.spots.items i.chain no_place) ≡ Some (holding_of chains i) = subst (λ (j : ChainedItem). is_changed c.args.last.now.since j ≡ false → IsAsBegun (begun_by c.args.last.now) chains j) (sym c.get-item.ensures) (c.requires.kept k i within) free in
          step (known_there parts c.args.last.now.parts (get_or places k no_place) _ h (holding_of chains i) same (known.spot yes) at was)
    ]

use Rattle.std.proofs.Common.{◌≡◌, ◌<◌, length, get_or, set, inl, inr, sym, ap, ◌∙◌, arith}
use Rattle.prepare_commit.specs.declared.items.ChainedItem.{ChainedItem}
use Rattle.prepare_commit.specs.Begun.{no_place}
use Rattle.std.proofs.lemmas.List.{length-set, get_or-set_same, get_or-set_other, get_or_default}
use Rattle.version_chain.proofs.Replacing.{same_or_not}
use Rattle.prepare_commit.proofs.copies.set_spots.Goals as goal

pub loop-nth-preserved : goal.loop-nth-preserved
loop-nth-preserved c =
    let spots = c.loop-nth.spots.items in
    let items = c.args.items.now.items in
    let k = c.loop-nth.nth in
    let place = get_or c.args.places.now k no_place in
    let chain = c.get.result.now.chain in
    let within : k < length items = omega (arith, c.loop-nth-test.true, c.requires.many) in
    let known : chain < length spots = (let less = c.requires.known k c.get.result.now within in omega (arith, less, c.loop-nth.invariant.0, ap (λ (i : ChainedItem). i.chain) c.get.ensures)) in (
      length-set spots chain place ∙ c.loop-nth.invariant.0,
      λ n d less. elim (same_or_not n k) [
        | inl same ↦
            let is : (get_or items n d).chain ≡ chain = ap (λ m. (get_or items m d).chain) same ∙ ap (λ (i : ChainedItem). i.chain) (get_or_default items k d c.get.result.now within ∙ sym c.get.ensures) in
            ap (λ m. get_or (set spots chain place) m no_place) is ∙ get_or-set_same spots chain place no_place known ∙ ap (λ m. get_or c.args.places.now m no_place) (sym same)
        | inr other ↦
            let before : n < k = omega (arith, less, other) in
            let apart = λ (e : (get_or items n d).chain ≡ chain). other (c.requires.apart n k d (omega (arith, before, within)) within (e ∙ sym (ap (λ (i : ChainedItem). i.chain) (get_or_default items k d c.get.result.now within ∙ sym c.get.ensures)))) in
            get_or-set_other spots chain (get_or items n d).chain place no_place apart ∙ c.loop-nth.invariant.1 n d before
      ],
    )

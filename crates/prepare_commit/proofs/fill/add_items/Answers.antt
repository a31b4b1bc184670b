use Rattle.std.proofs.Common.{◌≡◌, ◌<◌, ◌++◌, ◌∷◌, [], inl, inr, List, length, get_or, sym, ap, ◌∙◌, arith}
use Rattle.std.proofs.lemmas.List.{map-append, get_or_append_left}
use Rattle.std.proofs.Math.Seq.{get_or-append_seam}
use Rattle.std.proofs.lemmas.List.Edits.{insert_end}
use Rattle.std.specs.Prelude.{insert}
use Rattle.version_chain.proofs.Replacing.{same_or_not}
use Rattle.prepare_commit.specs.declared.items.ChainedItem.{ChainedItem}
use Rattle.prepare_commit.specs.Layout.{entries_of}
use Rattle.prepare_commit.proofs.Holding.{map_more_entry}
use Rattle.prepare_commit.proofs.fill.add_items.Goals as goal

pub loop-place-preserved : goal.loop-place-preserved
loop-place-preserved c =
    let items = c.loop-place.items.items in
    let k = c.loop-place.place in
    let so_far = c.loop-place.invariant in
    let item : ChainedItem = record { entry = c.entry.result; chain = k } in
    let less : k < length c.args.held.now = omega (arith, c.loop-place-test.true, c.len-place-end.ensures) in
    let put : c.insert.new.self.items ≡ items ++ item ∷ [] = c.insert.ensures.items ∙ ap (λ n. insert items n item) (sym so_far.2) ∙ insert_end items item in (
      ap entries_of put ∙ map-append (λ (i : ChainedItem). i.entry) items (item ∷ [])
          ∙ (λ j. so_far.0 j ++ c.entry.ensures j ∷ [])
          ∙ sym (map_more_entry c.args.held.now k less),
      λ n d within. elim (same_or_not n k) [
        | inl same ↦ ap (λ (is : List ChainedItem). (get_or is n d).chain) put ∙ ap (λ m. (get_or (items ++ item ∷ []) m d).chain) (same ∙ sym so_far.2) ∙ ap (λ (i : ChainedItem). i.chain) (get_or-append_seam items item [] d) ∙ sym same
        | inr other ↦
            let before : n < length items = omega (arith, within, c.insert.ensures.len, so_far.2, other) in
            ap (λ (is : List ChainedItem). (get_or is n d).chain) put ∙ ap (λ (i : ChainedItem). i.chain) (get_or_append_left items (item ∷ []) d n before) ∙ so_far.1 n d before
      ],
      omega (arith, c.insert.ensures.len, so_far.2),
      c.insert.ensures.room ∙ so_far.3,
    )

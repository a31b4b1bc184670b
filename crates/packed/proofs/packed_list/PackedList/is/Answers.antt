use Rattle.std.proofs.Common.{◌≡◌, ℕ, sym, ap, ◌∙◌}
use Rattle.std.proofs.lemmas.Bool.{both_ways}
use Rattle.packed.specs.Cuts.{IsCut, pieces, Entries}
use Rattle.packed.proofs.Pieces.{same_pieces}
use Rattle.packed.proofs.packed_list.PackedList.is.Goals as goal
use Rattle.packed.proofs.packed_list.PackedList.is.Goals.{After-are_ends}

-- where the entries are the same, so are their ends and their bytes
same : (c : After-are_ends) → c.args.self.now.items ≡ c.args.other.now.items → (c.self.inside.ends.items ≡ c.other.inside.ends.items) × (c.self.inside.bytes.items ≡ c.other.inside.bytes.items)
same c is =
    let p = c.self.inside in
    let q = c.other.inside in
    same_pieces p.bytes.items q.bytes.items p.ends.items q.ends.items c.self.invariant c.other.invariant
    (ap (λ (e : Entries). e.items) c.self.view_is ∙ is ∙ sym (ap (λ (e : Entries). e.items) c.other.view_is))

pub returns-then-are_ends : goal.returns-then-are_ends
returns-then-are_ends c =
    let at = (goal.at.returns-then-are_ends c).After-are_ends in
    let ends_are : c.self.inside.ends.items ≡ c.other.inside.ends.items = sym c.deref.ensures.value ∙ c.are_ends.ensures.0 c.if-are_ends.true ∙ c.deref-2.ensures.value in (
      λ yes.
          let bytes_are : c.self.inside.bytes.items ≡ c.other.inside.bytes.items = sym c.as_slice.ensures.value ∙ c.are_bytes.ensures.0 yes ∙ c.as_slice-then-are_ends.ensures.value in
          sym (ap (λ (e : Entries). e.items) c.self.view_is) ∙ (λ i. pieces (bytes_are i) 0 (ends_are i)) ∙ ap (λ (e : Entries). e.items) c.other.view_is,
      λ is. c.are_bytes.ensures.1 (c.as_slice.ensures.value ∙ (same at is).1 ∙ sym c.as_slice-then-are_ends.ensures.value),
    )

pub returns-else-are_ends : goal.returns-else-are_ends
returns-else-are_ends c =
    let at = (goal.at.returns-else-are_ends c).After-are_ends in (
      λ yes. absurd (both_ways c.are_ends.result c.if-are_ends.false yes),
      λ is. c.are_ends.ensures.1 (c.deref.ensures.value ∙ (same at is).0 ∙ sym c.deref-2.ensures.value),
    )

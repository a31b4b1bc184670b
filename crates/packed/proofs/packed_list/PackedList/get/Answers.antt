use Rattle.std.proofs.Common.{◌≡◌, ◌<◌, ℕ, length, sym, ap, subst, ◌∙◌}
use Rattle.packed.specs.Cuts.{Entries}
use Rattle.packed.proofs.Pieces.{as_many}
use Rattle.packed.proofs.packed_list.PackedList.get.Goals as goal

pub piece-requires-clause-place : goal.piece-requires-clause-place
piece-requires-clause-place c =
    let p = c.self.inside in
    let many : length c.args.self.now.items ≡ length c.as_slice-2.result.now = ap (λ (e : Entries). length e.items) (sym c.self.view_is) ∙ as_many p.bytes.items 0 p.ends.items ∙ ap length (sym c.as_slice-2.ensures.value) in
    subst (λ (n : ℕ). c.args.at < n) many c.requires

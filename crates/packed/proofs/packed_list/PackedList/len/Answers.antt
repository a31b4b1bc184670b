use Rattle.std.proofs.Common.{◌≡◌, length, sym, ap, ◌∙◌, arith}
use Rattle.std.specs.Prelude.{vec_len}
use Rattle.packed.specs.Cuts.{Entries}
use Rattle.packed.proofs.Pieces.{as_many}
use Rattle.packed.proofs.packed_list.PackedList.len.Goals as goal

pub returns-clause-count : goal.returns-clause-count
returns-clause-count c =
    let p = c.self.inside in
    c.len.ensures ∙ p.ends.ok.0 ∙ sym (as_many p.bytes.items 0 p.ends.items) ∙ ap (λ (e : Entries). length e.items) c.self.view_is

pub returns-clause-few : goal.returns-clause-few
returns-clause-few c =
    let p = c.self.inside in
    let many : length c.args.self.now.items ≡ vec_len p.ends = ap (λ (e : Entries). length e.items) (sym c.self.view_is) ∙ as_many p.bytes.items 0 p.ends.items ∙ sym p.ends.ok.0 in
    let room = p.ends.ok.1 in
    let small = p.ends.small in
    omega (arith, many, room, small)

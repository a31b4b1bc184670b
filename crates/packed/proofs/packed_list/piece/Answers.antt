use Rattle.std.proofs.Common.{◌≡◌, ◌-◌, ℕ, length, get_or, take, drop, Some, sym, ap, ◌∙◌, arith}
use Rattle.packed.specs.Cuts.{start_of}
use Rattle.packed.proofs.Pieces.{begins_before, ends_within, is_piece}
use Rattle.packed.proofs.packed_list.piece.Goals as goal

pub slice_bounds-result-count : goal.slice_bounds-result-count
slice_bounds-result-count c =
    let rises = begins_before 0 c.args.ends.now (length c.args.bytes.now) c.args.at c.requires.cut c.requires.place in
    omega (arith, rises, c.start_of-start.ensures)

pub slice_bounds-result-start : goal.slice_bounds-result-start
slice_bounds-result-start c =
    let rises = begins_before 0 c.args.ends.now (length c.args.bytes.now) c.args.at c.requires.cut c.requires.place in
    let small = ends_within 0 c.args.ends.now (length c.args.bytes.now) c.args.at c.requires.cut c.requires.place in
    omega (arith, rises, small, c.start_of-start.ensures)

pub slice_bounds-result-end : goal.slice_bounds-result-end
slice_bounds-result-end c =
    let rises = begins_before 0 c.args.ends.now (length c.args.bytes.now) c.args.at c.requires.cut c.requires.place in
    let small = ends_within 0 c.args.ends.now (length c.args.bytes.now) c.args.at c.requires.cut c.requires.place in
    omega (arith, rises, small, c.start_of-start.ensures)

pub returns : goal.returns
returns c =
    let begin : c.start_of-start.result ≡ start_of 0 c.args.ends.now c.args.at = c.start_of-start.ensures in
    let end = get_or c.args.ends.now c.args.at 0 in
    ap (λ (start : ℕ). Some (take (end - start) (drop start c.args.bytes.now))) begin ∙ sym (is_piece c.args.bytes.now 0 c.args.ends.now c.args.at c.requires.place)

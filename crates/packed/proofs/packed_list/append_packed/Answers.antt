use Rattle.std.proofs.Common.{◌≡◌, ◌+◌, ◌∷◌, [], ◌++◌, ℕ, List, length, sym, ap, subst, ◌∙◌, length-append}
use Rattle.packed.specs.Cuts.{IsCut, pieces}
use Rattle.packed.proofs.Pieces.{cut_once_more, pieces_once_more}
use Rattle.packed.proofs.packed_list.append_packed.Goals as goal

pub returns-clause-cut : goal.returns-clause-cut
returns-clause-cut g c =
    let before = c.args.bytes.now.items in
    let piece = g.E.PackEntry.packed_as c.args.entry.now in
    let long : length c.put.new.out.items ≡ length before + length piece = ap length c.put.ensures.packed ∙ length-append before piece in
    let end = c.len.ensures.count ∙ long in
    subst (λ (ends : List ℕ). IsCut 0 ends (length c.put.new.out.items)) (sym (c.push_reserved.ensures.items ∙ ap (λ (n : ℕ). c.args.ends.now.items ++ n ∷ []) end))
    (subst (λ (n : ℕ). IsCut 0 (c.args.ends.now.items ++ (length before + length piece) ∷ []) n) (sym long) (cut_once_more 0 c.args.ends.now.items (length before) (length piece) c.requires.cut))

pub returns-clause-items : goal.returns-clause-items
returns-clause-items g c =
    let before = c.args.bytes.now.items in
    let piece = g.E.PackEntry.packed_as c.args.entry.now in
    let long : length c.put.new.out.items ≡ length before + length piece = ap length c.put.ensures.packed ∙ length-append before piece in
    let end = c.len.ensures.count ∙ long in
    ap (λ (bytes : List ℕ). pieces bytes 0 c.push_reserved.new.self.items) c.put.ensures.packed
    ∙ ap (pieces (before ++ piece) 0) (c.push_reserved.ensures.items ∙ ap (λ (n : ℕ). c.args.ends.now.items ++ n ∷ []) end)
    ∙ pieces_once_more before piece 0 c.args.ends.now.items c.requires.cut

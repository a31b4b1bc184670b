use Rattle.std.proofs.Common.{◌≡◌, ◌+◌, ◌∷◌, [], ◌++◌, ℕ, List, length, sym, ap, subst, ◌∙◌}
use Rattle.packed.specs.Cuts.{IsCut, pieces}
use Rattle.packed.proofs.Pieces.{cut_once_more, pieces_once_more}
use Rattle.packed.proofs.packed_list.append.Goals as goal

pub returns-clause-cut : goal.returns-clause-cut
returns-clause-cut c =
    let piece = length c.args.piece.now in
    let total = length c.args.bytes.now.items in
    let end : c.len.result ≡ total + piece = c.len.ensures.count ∙ c.put_slice.ensures.few in
    subst (λ (ends : List ℕ). IsCut 0 ends (length c.put_slice.new.self.items)) (sym (c.push_reserved.ensures.items ∙ ap (λ (n : ℕ). c.args.ends.now.items ++ n ∷ []) end))
    (subst (λ (n : ℕ). IsCut 0 (c.args.ends.now.items ++ (total + piece) ∷ []) n) (sym c.put_slice.ensures.few) (cut_once_more 0 c.args.ends.now.items total piece c.requires.cut))

pub returns-clause-items : goal.returns-clause-items
returns-clause-items c =
    let piece = length c.args.piece.now in
    let end : c.len.result ≡ length c.args.bytes.now.items + piece = c.len.ensures.count ∙ c.put_slice.ensures.few in
    ap (λ (bytes : List ℕ). pieces bytes 0 c.push_reserved.new.self.items) c.put_slice.ensures.items
    ∙ ap (pieces (c.args.bytes.now.items ++ c.args.piece.now) 0) (c.push_reserved.ensures.items ∙ ap (λ (n : ℕ). c.args.ends.now.items ++ n ∷ []) end)
    ∙ pieces_once_more c.args.bytes.now.items c.args.piece.now 0 c.args.ends.now.items c.requires.cut

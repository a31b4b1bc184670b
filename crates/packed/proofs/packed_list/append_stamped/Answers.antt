use Rattle.std.proofs.Common.{◌≡◌, ◌+◌, ◌∷◌, [], ◌++◌, ℕ, List, length, sym, ap, subst, ◌∙◌, append_assoc, length-append}
use Rattle.std.specs.Int.{w64, to_le_bytes}
use Rattle.packed.specs.Cuts.{IsCut, pieces}
use Rattle.packed.proofs.Pieces.{cut_once_more, pieces_once_more}
use Rattle.packed.proofs.packed_list.append_stamped.Goals as goal
use Rattle.packed.proofs.packed_list.append_stamped.Goals.{After-len}

abbrev piece : (c : After-len) → List ℕ
piece c = c.args.mark ∷ to_le_bytes w64 c.args.stamp ++ c.args.rest.now

abbrev before : (c : After-len) → List ℕ
before c = c.args.bytes.now.items

three : (a b d e : List ℕ) → ((a ++ b) ++ d) ++ e ≡ a ++ (b ++ (d ++ e))
three a b d e = simp append_assoc

put : (c : After-len) → c.put_slice.new.self.items ≡ before c ++ piece c
put c =
    c.put_slice.ensures.items
    ∙ ap (λ (t : List ℕ). t ++ c.args.rest.now) (c.put_stamp.ensures.packed ∙ ap (λ (t : List ℕ). t ++ to_le_bytes w64 c.args.stamp) c.push_reserved.ensures.items)
    ∙ three (before c) (c.args.mark ∷ []) (to_le_bytes w64 c.args.stamp) c.args.rest.now

long : (c : After-len) → length c.put_slice.new.self.items ≡ length (before c) + length (piece c)
long c = ap length (put c) ∙ length-append (before c) (piece c)

pub returns-clause-cut : goal.returns-clause-cut
returns-clause-cut c =
    let at = (goal.at.returns-clause-cut c).After-len in
    let end = c.len.ensures.count ∙ long at in
    subst (λ (ends : List ℕ). IsCut 0 ends (length c.put_slice.new.self.items)) (sym (c.push_reserved-2.ensures.items ∙ ap (λ (n : ℕ). c.args.ends.now.items ++ n ∷ []) end))
    (subst (λ (n : ℕ). IsCut 0 (c.args.ends.now.items ++ (length (before at) + length (piece at)) ∷ []) n) (sym (long at)) (cut_once_more 0 c.args.ends.now.items (length (before at)) (length (piece at)) c.requires.cut))

pub returns-clause-items : goal.returns-clause-items
returns-clause-items c =
    let at = (goal.at.returns-clause-items c).After-len in
    let end = c.len.ensures.count ∙ long at in
    ap (λ (bytes : List ℕ). pieces bytes 0 c.push_reserved-2.new.self.items) (put at)
    ∙ ap (pieces (before at ++ piece at) 0) (c.push_reserved-2.ensures.items ∙ ap (λ (n : ℕ). c.args.ends.now.items ++ n ∷ []) end)
    ∙ pieces_once_more (before at) (piece at) 0 c.args.ends.now.items c.requires.cut

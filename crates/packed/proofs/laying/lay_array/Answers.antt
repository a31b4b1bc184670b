use Rattle.std.proofs.Common.{◌≡◌, ◌+◌, ◌-◌, ◌≤◌, ◌++◌, ℕ, List, length, take, drop, sym, ap, ◌∙◌, append_assoc, length-append, length-take-le, take-append-drop, arith}
use Rattle.std.proofs.lemmas.List.{take_at}
use Rattle.packed.proofs.laying.lay_array.Goals as goal

-- what stands in front, and the first of what is put behind it
front : (p source post : List ℕ) (at len : ℕ) → length p ≡ at → len ≤ length source → take (at + len) (p ++ (source ++ post)) ≡ p ++ take len source
front p source post at len long within =
    let split : p ++ (source ++ post) ≡ (p ++ take len source) ++ (drop len source ++ post) =
    ap (λ s. p ++ (s ++ post)) (sym (take-append-drop len source))
    ∙ ap (λ s. p ++ s) (append_assoc (take len source) (drop len source) post)
    ∙ sym (append_assoc p (take len source) (drop len source ++ post)) in
    ap (take (at + len)) split
    ∙ take_at (p ++ take len source) (drop len source ++ post) (at + len) (omega (arith, long, length-append p (take len source), length-take-le len source within))

pub returns : goal.returns
returns g c = λ len within.
    let bytes = c.args.bytes.now in
    let source = c.args.all.now in
    let at = c.args.at in
    let there : at ≤ length bytes = omega (arith, c.requires) in
    rw c.overwrite.ensures (front (take at bytes) source _ at len (length-take-le at bytes there) within)

use Rattle.std.proofs.Common.{◌≡◌, ℕ, ◌-◌, List, ◌++◌, length, length-take-le, take, drop, replicate, take-append-drop, sym, ap, ◌∙◌, arith}
use Rattle.std.specs.Cmp.Lexicographic.{slice_cmp}
use Rattle.std.specs.Ordering.{nat_cmp, ordering_then}
use Rattle.stamps.proofs.WordLemmas.{order_filled}
use Rattle.stamps.proofs.text.TextOrd.cmp.Goals as goal

-- a text, and the zeros behind it
filled : (most len : ℕ) (bytes : List ℕ) → drop len bytes ≡ replicate (most - len) 0 → bytes ≡ take len bytes ++ replicate (most - len) 0
filled most len bytes rest = sym (take-append-drop len bytes) ∙ ap (λ xs. take len bytes ++ xs) rest

pub returns : goal.returns
returns g c =
    let s = c.self.inside in
    let t = c.other.inside in
    let long : length (take s.len s.bytes) ≡ s.len = length-take-le s.len s.bytes (omega (arith, c.self.invariant.0, c.self.invariant.1)) in
    let long_too : length (take t.len t.bytes) ≡ t.len = length-take-le t.len t.bytes (omega (arith, c.other.invariant.0, c.other.invariant.1)) in
    let whole = filled g.row.N s.len s.bytes c.self.invariant.2 in
    let whole_too = filled g.row.N t.len t.bytes c.other.invariant.2 in
    c.then.ensures
    ∙ (λ i. ordering_then (c.cmp_by_words.ensures i) (c.cmp.ensures i))
    ∙ (λ i. ordering_then (slice_cmp nat_cmp (whole i) (whole_too i)) (nat_cmp (sym long i) (sym long_too i)))
    ∙ order_filled (take s.len s.bytes) (take t.len t.bytes) (g.row.N - s.len) (g.row.N - t.len) (omega (arith, c.self.invariant.0, c.other.invariant.0, long, long_too))
    ∙ (λ i. slice_cmp nat_cmp (c.self.view_is i) (c.other.view_is i))

use Rattle.std.proofs.Common.{rules, ◌≡◌, ℕ, ◌+◌, ◌-◌, ◌≤◌, ◌++◌, List, length, drop, replicate, length-append, length-drop, length-take-le, drop-drop, sym, ap, ◌∙◌, arith}
use Rattle.std.proofs.lemmas.List.{drop-append-le, drop-replicate, replicate-append-replicate}
use Rattle.stamps.proofs.text.Text.set_padded.Goals as goal

-- zeros stay behind a text whose bytes, and those that it had, lie in the first `m` places
zeros_behind : (front bytes : List ℕ) (len had m n : ℕ) → len ≤ m → had ≤ m → m ≤ n → length front ≡ m → drop len front ≡ replicate (m - len) 0
    → drop had bytes ≡ replicate (n - had) 0 → drop len (front ++ drop m bytes) ≡ replicate (n - len) 0
zeros_behind front bytes len had m n fits kept less long zeros rest =
    let past : had + (m - had) ≡ m = omega (arith, kept) in
    let left : n - had - (m - had) ≡ n - m = omega (arith, kept, less) in
    let all : (m - len) + (n - m) ≡ n - len = omega (arith, fits, less) in
    let others : drop m bytes ≡ replicate (n - m) 0 =
    ap (λ i. drop i bytes) (sym past) ∙ sym (drop-drop (m - had) had bytes) ∙ ap (drop (m - had)) rest
    ∙ drop-replicate (m - had) (n - had) 0 ∙ ap (λ i. replicate i 0) left in
    drop-append-le len front (drop m bytes) (omega (arith, fits, long))
    ∙ ap (λ l. l ++ drop m bytes) zeros ∙ ap (λ l. replicate (m - len) 0 ++ l) others
    ∙ replicate-append-replicate (m - len) (n - m) 0 ∙ ap (λ i. replicate i 0) all

pub invariant_of-self : goal.invariant_of-self
invariant_of-self g c =
    let front = c.args.front.now in
    let bytes = c.self.inside.bytes in
    let inv = c.self.invariant in
    let req = c.requires in
    let long : length front ≡ g.row.M = search rules in
    let many : length c.args.self.now ≡ c.self.inside.len =
    sym (ap length c.self.view_is) ∙ length-take-le c.self.inside.len bytes (omega (arith, inv.0, inv.1)) in
    rw c.copy_from_slice.ensures.after (
      omega (arith, req.fits, req.shorter),
      omega (arith, length-append front (drop g.row.M bytes), length-drop g.row.M bytes, inv.1, long, req.shorter),
      zeros_behind front bytes c.args.len c.self.inside.len g.row.M g.row.N req.fits (omega (arith, many, req.had)) req.shorter long req.zeros inv.2,
    )

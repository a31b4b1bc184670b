use Rattle.std.proofs.Common.{◌≡◌, ℕ, nat_eq, List, ◌++◌, take, drop, replicate, ◌-◌, take-append-drop, sym, ap, ◌∙◌}
use Rattle.std.proofs.lemmas.Bool.Decides.{Decides-eqb}
use Rattle.std.specs.Bool.{one_answer}
use Rattle.std.specs.Cmp.Lexicographic.{pointwise, pointwise_decides, texts_ties}
use Rattle.std.specs.Ordering.{is_eq}
use Rattle.stamps.proofs.text.TextPartialEq.eq.Goals as goal

-- where the rests are the same, the wholes are the same exactly where the texts are
same_texts : (n m : ℕ) (xs ys : List ℕ) → n ≡ m → drop n xs ≡ drop m ys → pointwise nat_eq xs ys ≡ pointwise nat_eq (take n xs) (take m ys)
same_texts n m xs ys e rest =
    let texts = pointwise_decides Decides-eqb in
    one_answer _ _ (texts xs ys) (
      λ test.
          let same = (texts (take n xs) (take m ys)).0 test in
          sym (take-append-drop n xs) ∙ (λ i. same i ++ rest i) ∙ take-append-drop m ys,
      λ same. (texts (take n xs) (take m ys)).1 (λ i. take (e i) (same i)),
    )

pub returns-then-self-other : goal.returns-then-self-other
returns-then-self-other g c =
    let s = c.self.inside in
    let t = c.other.inside in
    let rest = c.self.invariant.2 ∙ ap (λ n. replicate (g.row.N - n) 0) c.if-self-other.true ∙ sym c.other.invariant.2 in
    rw (← c.self.view_is, ← c.other.view_is) (c.is_eq.ensures ∙ ap is_eq c.cmp_by_words.ensures ∙ sym (texts_ties s.bytes t.bytes) ∙ same_texts s.len t.len s.bytes t.bytes c.if-self-other.true rest)

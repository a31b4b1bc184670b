-- Counts that stop at the greatest number, one more after the other: for `with_all` and `count_in`.
use Rattle.std.proofs.Common.{◌≡◌, ℕ, ◌+◌, ◌<◌, List, length, get_or, take, sym, ap, ◌∙◌, arith}
use Rattle.std.specs.Prelude.{sum_by}
use Rattle.std.proofs.lemmas.List.Sums.{sum_by_more}
use Rattle.server_verdicts.specs.Begun.{told_count}

told_more : (before so_far one : ℕ) → told_count (told_count (before + so_far) + one) ≡ told_count (before + (so_far + one))
told_more before so_far one = omega arith

module _ {X : Type 0} (f : X → ℕ) (xs : List X) where
  -- what is reported of the elements so far, and of one more
  pub counts_more : (i : ℕ) (x : X) (before now next : ℕ) → i < length xs → x ≡ get_or xs i x → now ≡ told_count (before + sum_by f (take i xs))
      → next ≡ told_count (now + f x) → next ≡ told_count (before + sum_by f (take (i + 1) xs))
  counts_more i x before now next within is so_far adds =
      let sum : sum_by f (take (i + 1) xs) ≡ sum_by f (take i xs) + f x = sum_by_more f xs i x within ∙ ap (λ y. sum_by f (take i xs) + f y) (sym is) in
      adds ∙ ap (λ n. told_count (n + f x)) so_far ∙ told_more before (sum_by f (take i xs)) (f x) ∙ ap (λ s. told_count (before + s)) (sym sum)

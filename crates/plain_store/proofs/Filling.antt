-- A list of fixed capacity whose unused rest is blank, before and after one more is put into it, or written over.
use Rattle.std.proofs.Common.{◌≡◌, ℕ, ◌+◌, ◌-◌, ◌<◌, ◌≤◌, List, [], ◌∷◌, ◌++◌, length, take, drop, set, replicate, max, inl, inr, ap, sym, ◌∙◌, append_assoc, arith, add-one}
use Rattle.std.proofs.lemmas.List.{take-append-drop, take-set, drop-set, take_at, drop_at, drop-set-lt, drop-replicate, drop-drop, replicate-append-replicate, length-take-le}
use Rattle.std.proofs.lemmas.Bool.{cases_lt}
use Rattle.std.proofs.lemmas.List.{take_all, drop_all}
use Rattle.std.proofs.Math.Seq.{take-suc-set, take-set-lt}

module _ {X : Type 0} (blank : X) where
  pub rest_after : (most len : ℕ) (xs : List X) (x : X) → drop len xs ≡ replicate (most - len) blank → drop (len + 1) (set xs len x) ≡ replicate (most - (len + 1)) blank
  rest_after most len xs x rest =
      let beyond : len < len + 1 = omega arith in
      let fewer : (most - len) - 1 ≡ most - (len + 1) = omega arith in
      drop-set-lt (len + 1) xs len x beyond
      ∙ sym (drop-drop 1 len xs)
      ∙ ap (drop 1) rest
      ∙ drop-replicate 1 (most - len) blank
      ∙ ap (λ n. replicate n blank) fewer

  pub taken_after : (len : ℕ) (xs : List X) (x : X) → len < length xs → take (len + 1) (set xs len x) ≡ take len xs ++ x ∷ []
  taken_after len xs x within = rw add-one (take-suc-set xs len x within)

  pub blanked : (most len : ℕ) (xs filled : List X) → filled ≡ replicate len blank → drop len xs ≡ replicate (most - len) blank → len ≤ most → filled ++ drop len xs ≡ replicate most blank
  blanked most len xs filled is rest within =
      let all : len + (most - len) ≡ most = omega arith in
      (λ i. is i ++ rest i) ∙ replicate-append-replicate len (most - len) blank ∙ ap (λ n. replicate n blank) all

  -- one that holds fewer than it may has a place that is free
  pub has_room : (most len : ℕ) (view xs : List X) → length view < most → take len xs ≡ view → len ≤ most → length xs ≡ most → len < most
  has_room most len view xs few is within long =
      let seen = length-take-le len xs (omega (arith, within, long)) in
      omega (arith, few, seen, ap (λ (ys : List X). length ys) is)

  -- the unused rest stays blank where one is written over, or behind the last
  pub rest_written : (most len at : ℕ) (xs : List X) (x : X) → at ≤ len → drop len xs ≡ replicate (most - len) blank
      → drop (max len (at + 1)) (set xs at x) ≡ replicate (most - max len (at + 1)) blank
  rest_written most len at xs x within rest = elim (cases_lt at len) [
    | inl less ↦
        let same : max len (at + 1) ≡ len = omega arith in
        ap (λ n. drop n (set xs at x)) same ∙ drop-set-lt len xs at x less ∙ rest ∙ ap (λ n. replicate (most - n) blank) (sym same)
    | inr past ↦
        let is : at ≡ len = omega arith in
        let more : max len (at + 1) ≡ len + 1 = omega arith in
        ap (λ n. drop n (set xs at x)) more ∙ ap (λ k. drop (len + 1) (set xs k x)) is ∙ rest_after most len xs x rest ∙ ap (λ n. replicate (most - n) blank) (sym more)
  ]

-- ---- one that is written over

pub written_over : {X : Type 0} (at : ℕ) (xs : List X) (x : X) → at < length xs → set xs at x ≡ take at xs ++ x ∷ drop (at + 1) xs
written_over at xs x within = sym (take-append-drop at (set xs at x)) ∙ (λ i. take-set xs at x i ++ drop-set xs at x within i)

-- behind those that were written over the next one is
pub next_written : {X : Type 0} (at : ℕ) (done rest : List X) (x : X) → length done ≡ at
    → take at (done ++ rest) ++ x ∷ drop (at + 1) (done ++ rest) ≡ (done ++ x ∷ []) ++ drop 1 rest
next_written {X} at done rest x long =
    let kept : take at (done ++ rest) ≡ done = take_at done rest at long in
    let left : drop (at + 1) (done ++ rest) ≡ drop 1 rest = sym (drop-drop 1 at (done ++ rest)) ∙ ap (λ (xs : List X). drop 1 xs) (drop_at done rest at long) in
    (λ i. kept i ++ x ∷ left i) ∙ sym (append_assoc done (x ∷ []) (drop 1 rest))

pub taken_written : {X : Type 0} (len at : ℕ) (xs : List X) (x : X) → at ≤ len → at < length xs → len ≤ length xs
    → take (max len (at + 1)) (set xs at x) ≡ take at (take len xs) ++ x ∷ drop (at + 1) (take len xs)
taken_written {X} len at xs x within room long = elim (cases_lt at len) [
  | inl less ↦
      let same : max len (at + 1) ≡ len = omega arith in
      ap (λ n. take n (set xs at x)) same ∙ take-set-lt len xs at x less ∙ written_over at (take len xs) x (omega (arith, less, length-take-le len xs long))
  | inr past ↦
      let is : at ≡ len = omega arith in
      let more : max len (at + 1) ≡ at + 1 = omega arith in
      let seen = length-take-le len xs long in
      let whole : take at (take len xs) ≡ take len xs = take_all at (take len xs) (omega (arith, seen, is)) in
      let none : drop (at + 1) (take len xs) ≡ [] = drop_all (at + 1) (take len xs) (omega (arith, seen, is)) in
      ap (λ n. take n (set xs at x)) more ∙ rw add-one (take-suc-set xs at x room) ∙ ap (λ n. take n xs ++ x ∷ []) is
      ∙ sym (λ i. whole i ++ x ∷ none i)
]

-- For `StampList`: insert, of and within: a list of ascending stamps, before, at and behind a stamp.
use Rattle.std.proofs.Common.{◌≡◌, ℕ, zero, suc, ◌+◌, ◌-◌, ◌≤◌, ◌==◌, nat_le, nat_lt, Bool, true, false, List, [], ◌∷◌, filter, not, take, drop, length, inl, inr, refl, ap, sym, ◌∙◌, eqb-true, true≢false, arith}
use Rattle.std.specs.Prelude.{◌≢◌, ◌<◌, slice_range, slice_index_or, insert}
use Rattle.std.specs.List.{AllWithin}
use Rattle.std.proofs.lemmas.Bool.{cases_lt, ltb-true, ltb-false, leb-true, leb-false, le-leb, le-ltb, lt-leb, lt-ltb, eq-eqb, ne_eqb}
use Rattle.std.proofs.lemmas.List.Sorted.{IsNonDecreasingBy-insert}
use Rattle.version_chain.specs.declared.stamp_list.Kept.{Kept}
use Rattle.version_chain.specs.Listing.{Ascends, EndsAtMost, EndsBelow}

-- so many elements from an index on, where a test passes there alone
filter_between : (q : Kept → Bool) (xs : List Kept) (a n : ℕ) → a + n ≤ length xs → AllWithin (λ x. q x ≡ false) xs 0 a → AllWithin (λ x. q x ≡ true) xs a (a + n) → AllWithin (λ x. q x ≡ false) xs (a + n) (length xs)
    → take n (drop a xs) ≡ filter q xs
filter_between q [] zero zero within before inside after = refl
filter_between q [] zero (suc n) within before inside after = absurd (omega arith)
filter_between q [] (suc a) n within before inside after = absurd (omega arith)
filter_between q (x ∷ xs) zero zero within before inside after =
    let first = after 0 x (omega arith) (omega arith) in
    let rest = filter_between q xs 0 0 (omega arith) (λ k d from to. absurd (omega arith)) (λ k d from to. absurd (omega arith)) (λ k d from to. after (suc k) d (omega arith) (omega arith)) in
    rw first rest
filter_between q (x ∷ xs) zero (suc n) within before inside after =
    let first = inside 0 x (omega arith) (omega arith) in
    let rest = filter_between q xs 0 n (omega arith) (λ k d from to. absurd (omega arith)) (λ k d from to. inside (suc k) d (omega arith) (omega arith)) (λ k d from to. after (suc k) d (omega arith) (omega arith)) in
    rw first (λ i. x ∷ rest i)
filter_between q (x ∷ xs) (suc a) n within before inside after =
    let first = before 0 x (omega arith) (omega arith) in
    let rest = filter_between q xs a n (omega arith) (λ k d from to. before (suc k) d (omega arith) (omega arith)) (λ k d from to. inside (suc k) d (omega arith) (omega arith)) (λ k d from to. after (suc k) d (omega arith) (omega arith)) in
    rw first rest

by_test : (b : Bool) (x y : ℕ) → (x == y) ≡ b → false ≡ not b → x ≡ y
by_test true x y is told = eqb-true x y is
by_test false x y is told = absurd cc

-- what a test of two stamps has told
pub same_stamp : (x y : ℕ) (differ : Bool) → differ ≡ not (x == y) → differ ≡ false → x ≡ y
same_stamp x y differ is told = by_test (x == y) x y refl (sym told ∙ is)

pub other_stamp : (x y : ℕ) (differ : Bool) → differ ≡ not (x == y) → differ ≡ true → x ≢ y
other_stamp x y differ is told same =
    let equal : not (x == y) ≡ false = ap not (eq-eqb x y same) in
    true≢false (sym told ∙ is ∙ equal)

module _ (kept : List Kept) (stamp : ℕ) where
  pub ascends_with : (place : ℕ) (version : Kept) → version.stamp ≡ stamp → Ascends kept → place ≤ length kept → EndsAtMost kept stamp place → Ascends (insert kept place version)
  ascends_with place version is ascends within ends =
      IsNonDecreasingBy-insert (λ (k : Kept). k.stamp) kept place version ascends within
      (λ k d below. let less = leb-true _ _ (ends.0 k d (omega arith) below) in omega arith)
      (λ k d above lower. let more = leb-false _ _ (ends.1 k d above lower) in omega arith)

  pub not_below_range : (first : ℕ) → first ≤ length kept → EndsBelow kept stamp first → take (length kept - first) (drop first kept) ≡ filter (λ (k : Kept). not (nat_lt k.stamp stamp)) kept
  not_below_range first within ends =
      filter_between (λ (k : Kept). not (nat_lt k.stamp stamp)) kept first (length kept - first) (omega arith)
      (λ k d from to. ap not (ends.0 k d from to))
      (λ k d from to. ap not (ends.1 k d from (omega arith)))
      (λ k d from to. absurd (omega arith))

  module _ (first end : ℕ) (low : EndsBelow kept stamp first) (high : EndsAtMost kept stamp end) (within : first ≤ length kept) where
    pub first-end : first ≤ end
    first-end = elim (cases_lt end first) [
      | inl above ↦
          let d : Kept = record { stamp = 0; slot = 0 } in
          let less = ltb-true _ _ (low.0 end d (omega arith) above) in
          let more = leb-false _ _ (high.1 end d (omega arith) (omega arith)) in
          omega arith
      | inr fine ↦ fine
    ]

    pub at_stamp_range : end ≤ length kept → slice_range kept first end ≡ filter (λ (k : Kept). k.stamp == stamp) kept
    at_stamp_range ends =
        let ordered = first-end in
        filter_between (λ (k : Kept). k.stamp == stamp) kept first (end - first) (omega arith)
        (λ k d from to. ne_eqb _ _ (λ same. (let less = ltb-true _ _ (low.0 k d from to) in omega arith)))
        (λ k d from to. eq-eqb _ _ (let least = ltb-false _ _ (low.1 k d from (omega arith)) in let most = leb-true _ _ (high.0 k d (omega arith) (omega arith)) in omega arith))
        (λ k d from to. ne_eqb _ _ (λ same. (let more = leb-false _ _ (high.1 k d (omega arith) to) in omega arith)))

  -- where the last version is at most of this stamp, all are
  pub all_at_most : Ascends kept → (0 < length kept → (d : Kept) → (slice_index_or kept (length kept - 1) d).stamp ≤ stamp) → EndsAtMost kept stamp (length kept)
  all_at_most ascends last = (
    λ k d from to. le-leb _ _ (let highest = ascends k (length kept - 1) d (omega arith) (omega arith) in let least = last (omega arith) d in omega arith),
    λ k d from to. absurd (omega arith),
  )

  -- from this place on, none is below the stamp
  abbrev pub NoneFrom : ℕ → Type 0
  NoneFrom first = (k : ℕ) (d : Kept) → first ≤ k → k < length kept → stamp ≤ (slice_index_or kept k d).stamp

  -- nor from the place before, where the version there is not
  pub one_lower : (first : ℕ) → 0 < first → ((d : Kept) → stamp ≤ (slice_index_or kept (first - 1) d).stamp) → NoneFrom first → NoneFrom (first - 1)
  one_lower first some at from k d low high = elim (cases_lt k first) [
    | inl before ↦ (let here : k ≡ first - 1 = omega arith in rw here (at d))
    | inr after ↦ from k d after high
  ]

  -- they begin here where the version before is below the stamp, or there is none
  pub begins_here : (first : ℕ) → Ascends kept → first ≤ length kept → NoneFrom first → (0 < first → (d : Kept) → (slice_index_or kept (first - 1) d).stamp < stamp) → EndsBelow kept stamp first
  begins_here first ascends within from below = (
    λ k d low high. lt-ltb _ _ (let highest = ascends k (first - 1) d (omega arith) (omega arith) in let less = below (omega arith) d in omega arith),
    λ k d low high. le-ltb _ _ (from k d low high),
  )

  -- from the first on, each of these versions is of the stamp
  abbrev pub IsRun : ℕ → ℕ → Type 0
  IsRun first end = (k : ℕ) (d : Kept) → first ≤ k → k < end → (slice_index_or kept k d).stamp ≡ stamp

  module _ (first : ℕ) (ascends : Ascends kept) (low : EndsBelow kept stamp first) where
    at_most_in : (end : ℕ) → IsRun first end → end ≤ length kept → (k : ℕ) (d : Kept) → k < end → nat_le (slice_index_or kept k d).stamp stamp ≡ true
    at_most_in end run within k d below = elim (cases_lt k first) [
      | inl before ↦ le-leb _ _ (let less = ltb-true _ _ (low.0 k d (omega arith) before) in omega arith)
      | inr after ↦ le-leb _ _ (let same = run k d after below in omega arith)
    ]

    pub ends_at_other : (end : ℕ) → first ≤ end → end < length kept → IsRun first end → ((d : Kept) → (slice_index_or kept end d).stamp ≢ stamp) → EndsAtMost kept stamp end
    ends_at_other end ordered within run other = (
      λ k d from to. at_most_in end run (omega arith) k d to,
      λ k d from to.
          let least = ltb-false _ _ (low.1 end d ordered within) in
          let more = ascends end k d from to in
          let apart = other d in
          lt-leb _ _ (omega arith),
    )

    pub ends_at_end : IsRun first (length kept) → EndsAtMost kept stamp (length kept)
    ends_at_end run = (λ k d from to. at_most_in (length kept) run (omega arith) k d to, λ k d from to. absurd (omega arith))

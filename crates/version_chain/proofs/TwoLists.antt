-- For `KeptList`: two lists of which no stamp stands in both, one before the other.
use Rattle.std.proofs.Common.{◌≡◌, inl, inr, ℕ, ◌+◌, ◌-◌, ◌≤◌, ◌==◌, Bool, true, false, nat_lt, if◌then◌else◌, List, [], ◌∷◌, ◌++◌, filter, take, drop, length, length-drop, count_by, refl, sym, ap, ◌∙◌, arith}
use Rattle.std.proofs.lemmas.List.{nil_from_length, length-take-le}
use Rattle.std.proofs.Math.Seq.{drop-append-add}
use Rattle.std.proofs.lemmas.Bool.{cases_Bool, ne_eqb}
use Rattle.std.proofs.lemmas.List.Elements.{filter-append}
use Rattle.std.proofs.lemmas.List.Sums.{sum_by-append, length-filter}
use Rattle.std.specs.Prelude.{slice_range}
use Rattle.version_chain.specs.declared.stamp_list.Kept.{Kept}
use Rattle.version_chain.specs.Listing.{count_at, AreApart}
use Rattle.version_chain.specs.Listed.{is_held_at, IsListedInto}
use Rattle.version_chain.proofs.Listing.{cons, count_le, one_if, second_of}
use Rattle.version_chain.proofs.Places.{no_more}
use Rattle.version_chain.proofs.Replacing.{same_or_not}

pub count_both : (test : Kept → Bool) (one other : List Kept) → count_by test (one ++ other) ≡ count_by test one + count_by test other
count_both test one other = sum_by-append (λ k. one_if (test k)) one other

pub none_at_stamp : (stamp : ℕ) (kept : List Kept) → count_at stamp kept ≡ 0 → filter (λ (k : Kept). k.stamp == stamp) kept ≡ []
none_at_stamp stamp kept none =
    nil_from_length (filter (λ (k : Kept). k.stamp == stamp) kept) (length-filter (λ (k : Kept). k.stamp == stamp) kept ∙ none)

pub apart_filtered : (test : Kept → Bool) (one other one_left other_left : List Kept) → one_left ≡ filter test one → other_left ≡ filter test other → AreApart one other → AreApart one_left other_left
apart_filtered test one other one_left other_left is other_is apart stamp = elim (apart stamp) [
  | inl none ↦ inl (ap (λ (ks : List Kept). count_at stamp ks) is ∙ no_more test (λ (k : Kept). k.stamp == stamp) one none)
  | inr none ↦ inr (ap (λ (ks : List Kept). count_at stamp ks) other_is ∙ no_more test (λ (k : Kept). k.stamp == stamp) other none)
]

pub apart_none : (one other : List Kept) → other ≡ [] → AreApart one other
apart_none one other none stamp = inr (ap (λ (ks : List Kept). count_at stamp ks) none)

pub apart_swap : (one other : List Kept) → AreApart one other → AreApart other one
apart_swap one other apart stamp = elim (apart stamp) [ inl none ↦ inr none | inr none ↦ inl none ]

-- a version goes into one list, where the other has none of its stamp
pub apart_added : (one other new : List Kept) (version : Kept) → AreApart one other → count_at version.stamp other ≡ 0 → IsListedInto one new version → AreApart new other
apart_added one other new version apart none listed stamp = elim (same_or_not version.stamp stamp) [
  | inl same ↦ inr (ap (λ s. count_at s other) (sym same) ∙ none)
  | inr differs ↦ elim (apart stamp) [
    | inl empty ↦
        let at = λ (k : Kept). k.stamp == stamp in
        let has = nat_lt 0 (count_by (is_held_at version.slot version.stamp) one) in
        let other_stamp = ap one_if (ne_eqb version.stamp stamp differs) in
        inl (elim (cases_Bool has) [
          | inl e ↦ listed at ∙ ap (λ b. count_by at (if b then one else version ∷ one)) e ∙ empty
          | inr e ↦ (let put = listed at ∙ ap (λ b. count_by at (if b then one else version ∷ one)) e in omega (arith, put, cons at version one, other_stamp, empty))
        ])
    | inr empty ↦ inr empty
  ]
]

-- both lists then have what they had, and it
pub listed_beside : (old one new other : List Kept) (version : Kept) → count_at version.stamp other ≡ 0 → ((test : Kept → Bool) → count_by test one + count_by test other ≡ count_by test old) → IsListedInto one new version
    → (test : Kept → Bool) → count_by test new + count_by test other ≡ count_by test (if nat_lt 0 (count_by (is_held_at version.slot version.stamp) old) then old else version ∷ old)
listed_beside old one new other version none all listed test =
    let pair = is_held_at version.slot version.stamp in
    let none_there = count_le pair (λ (k : Kept). k.stamp == version.stamp) other (λ k e. second_of (k.slot == version.slot) (k.stamp == version.stamp) e) in
    let same : count_by pair one ≡ count_by pair old = omega (arith, none_there, none, all pair) in
    elim (cases_Bool (nat_lt 0 (count_by pair one))) [
      | inl e ↦
          let left = listed test ∙ ap (λ b. count_by test (if b then one else version ∷ one)) e in
          let right = ap (λ b. count_by test (if b then old else version ∷ old)) (ap (λ n. nat_lt 0 n) (sym same) ∙ e) in
          omega (arith, left, right, all test)
      | inr e ↦
          let left = listed test ∙ ap (λ b. count_by test (if b then one else version ∷ one)) e in
          let right = ap (λ b. count_by test (if b then old else version ∷ old)) (ap (λ n. nat_lt 0 n) (sym same) ∙ e) in
          omega (arith, left, right, all test, cons test version one, cons test version old)
    ]

-- so many versions of the stamp stand at these places
pub run_count : (stamp : ℕ) (kept : List Kept) (first end : ℕ) → first ≤ end → end ≤ length kept → slice_range kept first end ≡ filter (λ (k : Kept). k.stamp == stamp) kept → count_at stamp kept ≡ end - first
run_count stamp kept first end ordered within together =
    let rest = length-drop first kept in
    sym (length-filter (λ (k : Kept). k.stamp == stamp) kept)
    ∙ sym (ap (λ (ks : List Kept). length ks) together)
    ∙ length-take-le (end - first) (drop first kept) (omega (arith, rest))

module _ (stamp : ℕ) (one other : List Kept) where
  abbrev is_at : Kept → Bool
  is_at k = k.stamp == stamp

  pub second_alone : filter is_at one ≡ [] → filter is_at other ≡ filter is_at (one ++ other)
  second_alone none =
      ap (λ (ks : List Kept). ks ++ filter is_at other) (sym none) ∙ sym (filter-append is_at one other)

  module _ (first end : ℕ) (ordered : first ≤ end) where
    pub second_places : (before : ℕ) → before ≡ length one → filter is_at one ≡ [] → slice_range other first end ≡ filter is_at other → slice_range (one ++ other) (before + first) (before + end) ≡ filter is_at (one ++ other)
    second_places before is none together =
        let many : (before + end) - (before + first) ≡ end - first = omega arith in
        ap (λ n. take n (drop (before + first) (one ++ other))) many
        ∙ ap (λ n. take (end - first) (drop (n + first) (one ++ other))) is
        ∙ ap (take (end - first)) (drop-append-add one other first)
        ∙ together
        ∙ second_alone none

pub not_both : (b : Bool) → b ≡ true → b ≡ false → ⊥
not_both b holds fails = absurd (let g : true ≡ false = sym holds ∙ fails in cc)

pub count_all : (kept : List Kept) → count_by (λ (k : Kept). true) kept ≡ length kept
count_all [] = refl
count_all (k ∷ kept) = omega (arith, cons (λ (x : Kept). true) k kept, count_all kept)

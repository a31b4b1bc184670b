-- For `StampList::take_all`: two ascending lists that are merged from the back on.
use Rattle.std.proofs.Common.{◌≡◌, ◌⊎◌, inl, inr, ℕ, ◌+◌, ◌-◌, ◌<◌, ◌≤◌, Bool, List, take, drop, set, length, length-set, get_or, count_by, sym, ap, ◌∙◌, arith}
use Rattle.std.proofs.lemmas.Bool.{cases_lt}
use Rattle.std.proofs.lemmas.List.{get_or_read, get_or-take, get_or-set_same, get_or-set_other, take-take, take-set-le, take_all, drop-set, drop_all}
use Rattle.std.proofs.lemmas.List.Sums.{sum_by_more, sum_by-take-drop}
use Rattle.version_chain.specs.declared.stamp_list.Kept.{Kept}
use Rattle.version_chain.specs.Listing.{Ascends}
use Rattle.version_chain.proofs.Listing.{cons, one_if}

-- so many versions of each list are left; the others stand at the end of the third
pub record Merging (front run list : List Kept) (left unplaced : ℕ) : Type 0 where
  pub left_in : left ≤ length front
  pub unplaced_in : unplaced ≤ length run
  pub long : length list ≡ length front + length run
  pub same : take left list ≡ take left front
  pub ascends : (i j : ℕ) (d : Kept) → left + unplaced ≤ i → i ≤ j → j < length list → (get_or list i d).stamp ≤ (get_or list j d).stamp
  pub front_below : (k m : ℕ) (d : Kept) → k < left → left + unplaced ≤ m → m < length list → (get_or front k d).stamp ≤ (get_or list m d).stamp
  pub run_below : (k m : ℕ) (d : Kept) → k < unplaced → left + unplaced ≤ m → m < length list → (get_or run k d).stamp ≤ (get_or list m d).stamp
  pub counted : (test : Kept → Bool) → count_by test (take left front) + count_by test (take unplaced run) + count_by test (drop (left + unplaced) list) ≡ count_by test front + count_by test run

pub nothing_placed : (front run list : List Kept) (left : ℕ) → left ≡ length front → take left list ≡ front → length list ≡ left + length run → Merging front run list left (length run)
nothing_placed front run list left is starts long = record {
  left_in = omega arith;
  unplaced_in = omega arith;
  long = omega arith;
  same = starts ∙ sym (take_all left front (omega arith));
  ascends = λ i j d from le within. absurd (omega arith);
  front_below = λ k m d low from within. absurd (omega arith);
  run_below = λ k m d low from within. absurd (omega arith);
  counted = λ test.
      omega (
        arith,
        ap (count_by test) (take_all left front (omega arith)),
        ap (count_by test) (take_all (length run) run (omega arith)),
        ap (count_by test) (drop_all (left + length run) list (omega arith)),
      );
}

pub kept_at : (front run list : List Kept) (left unplaced : ℕ) → Merging front run list left unplaced → (k : ℕ) (d : Kept) → k < left → get_or list k d ≡ get_or front k d
kept_at front run list left unplaced was k d low =
    sym (get_or-take left list k d low) ∙ ap (λ (ks : List Kept). get_or ks k d) was.same ∙ get_or-take left front k d low

count_more : (test : Kept → Bool) (xs : List Kept) (i : ℕ) (d : Kept) → i < length xs → count_by test (take (i + 1) xs) ≡ count_by test (take i xs) + one_if (test (get_or xs i d))
count_more test xs i d within = sum_by_more (λ x. one_if (test x)) xs i d within

-- a version that is not below any that is left, nor above any that was placed, is put before these
module _ (front run list : List Kept) (left unplaced : ℕ) (was : Merging front run list left unplaced) (fewer lesser : ℕ) (one_less : fewer + lesser + 1 ≡ left + unplaced) (fewer_in : fewer ≤ left) (lesser_in : lesser ≤ unplaced) (x : Kept)
    (below : (m : ℕ) (d : Kept) → left + unplaced ≤ m → m < length list → x.stamp ≤ (get_or list m d).stamp)
    (front_le : (k : ℕ) (d : Kept) → k < fewer → (get_or front k d).stamp ≤ x.stamp)
    (run_le : (k : ℕ) (d : Kept) → k < lesser → (get_or run k d).stamp ≤ x.stamp)
    (counts : (test : Kept → Bool) → count_by test (take fewer front) + count_by test (take lesser run) + one_if (test x) ≡ count_by test (take left front) + count_by test (take unplaced run)) where
  abbrev place : ℕ
  place = fewer + lesser

  abbrev next : List Kept
  next = set list place x

  within : place < length list
  within = omega (arith, was.left_in, was.unplaced_in, was.long)

  long : length next ≡ length list
  long = length-set list place x

  at : (i : ℕ) (d : Kept) → place ≤ i → ((i ≡ place) × (get_or next i d ≡ x)) ⊎ ((left + unplaced ≤ i) × (get_or next i d ≡ get_or list i d))
  at i d from = elim (cases_lt place i) [
    | inl above ↦ inr (omega arith, get_or-set_other list place i x d (λ same. absurd (omega arith)))
    | inr here ↦ (let same : i ≡ place = omega arith in inl (same, ap (λ k. get_or next k d) same ∙ get_or-set_same list place x d within))
  ]

  ascends : (i j : ℕ) (d : Kept) → place ≤ i → i ≤ j → j < length next → (get_or next i d).stamp ≤ (get_or next j d).stamp
  ascends i j d from le end = elim (at i d from) [
    | inl a ↦ elim (at j d (omega arith)) [
      | inl b ↦ omega (arith, ap (λ (k : Kept). k.stamp) a.1, ap (λ (k : Kept). k.stamp) b.1)
      | inr b ↦ omega (arith, ap (λ (k : Kept). k.stamp) a.1, ap (λ (k : Kept). k.stamp) b.1, below j d b.0 (omega (arith, long)))
    ]
    | inr a ↦ elim (at j d (omega arith)) [
      | inl b ↦ absurd (omega (arith, a.0, b.0))
      | inr b ↦ omega (arith, ap (λ (k : Kept). k.stamp) a.1, ap (λ (k : Kept). k.stamp) b.1, was.ascends i j d a.0 le (omega (arith, long)))
    ]
  ]

  counted : (test : Kept → Bool) → count_by test (take fewer front) + count_by test (take lesser run) + count_by test (drop place next) ≡ count_by test front + count_by test run
  counted test =
      let there : place + 1 ≡ left + unplaced = one_less in
      let end = ap (count_by test) (drop-set list place x within) in
      let rest = ap (λ n. count_by test (drop n list)) there in
      omega (arith, end, rest, cons test x (drop (place + 1) list), counts test, was.counted test)

  pub one_placed : Merging front run next fewer lesser
  one_placed = record {
    left_in = omega (arith, was.left_in);
    unplaced_in = omega (arith, was.unplaced_in);
    long = long ∙ was.long;
    same =
        take-set-le fewer list place x (omega arith)
        ∙ sym (take-take fewer left list fewer_in)
        ∙ ap (take fewer) was.same
        ∙ take-take fewer left front fewer_in;
    ascends = ascends;
    front_below = λ k m d low from end. elim (at m d from) [
      | inl a ↦ omega (arith, ap (λ (k : Kept). k.stamp) a.1, front_le k d low)
      | inr a ↦ omega (arith, ap (λ (k : Kept). k.stamp) a.1, was.front_below k m d (omega arith) a.0 (omega (arith, long)))
    ];
    run_below = λ k m d low from end. elim (at m d from) [
      | inl a ↦ omega (arith, ap (λ (k : Kept). k.stamp) a.1, run_le k d low)
      | inr a ↦ omega (arith, ap (λ (k : Kept). k.stamp) a.1, was.run_below k m d (omega arith) a.0 (omega (arith, long)))
    ];
    counted = counted;
  }

module _ (front run list : List Kept) (left unplaced : ℕ) (was : Merging front run list left unplaced) (front_ascends : Ascends front) (run_ascends : Ascends run) where
  -- the last one of the front is above that of the run
  pub front_placed : (fewer : ℕ) (x last : Kept) → fewer + 1 ≡ left → 0 < unplaced → x ≡ get_or front fewer x → last ≡ get_or run (unplaced - 1) last → last.stamp < x.stamp → Merging front run (set list (fewer + unplaced) x) fewer unplaced
  front_placed fewer x last less more is last_is above =
      one_placed front run list left unplaced was fewer unplaced (omega arith) (omega arith) (omega arith) x
      (λ m d from end. omega (arith, x_at d, was.front_below fewer m d (omega arith) from end))
      (λ k d low. omega (arith, x_at d, front_ascends k fewer d (omega arith) in_front))
      (λ k d low. omega (arith, last_at d, run_ascends k (unplaced - 1) d (omega arith) in_run))
      (λ test. omega (arith, count_more test front fewer x in_front, ap (λ (k : Kept). one_if (test k)) is, ap (λ n. count_by test (take n front)) less))
    where
      in_front : fewer < length front
      in_front = omega (arith, was.left_in)

      in_run : unplaced - 1 < length run
      in_run = omega (arith, was.unplaced_in)

      x_at : (d : Kept) → x.stamp ≡ (get_or front fewer d).stamp
      x_at d = ap (λ (k : Kept). k.stamp) (get_or_read front fewer x in_front is d)

      last_at : (d : Kept) → last.stamp ≡ (get_or run (unplaced - 1) d).stamp
      last_at d = ap (λ (k : Kept). k.stamp) (get_or_read run (unplaced - 1) last in_run last_is d)

  -- none is left of the front, or its last one is not above that of the run
  pub run_placed : (lesser : ℕ) (x : Kept) → lesser + 1 ≡ unplaced → x ≡ get_or run lesser x → (0 < left → (d : Kept) → (get_or front (left - 1) d).stamp ≤ x.stamp) → Merging front run (set list (left + lesser) x) left lesser
  run_placed lesser x less is not_above =
      one_placed front run list left unplaced was left lesser (omega arith) (omega arith) (omega arith) x
      (λ m d from end. omega (arith, x_at d, was.run_below lesser m d (omega arith) from end))
      (λ k d low. omega (arith, not_above (omega arith) d, front_ascends k (left - 1) d (omega arith) (omega (arith, was.left_in))))
      (λ k d low. omega (arith, x_at d, run_ascends k lesser d (omega arith) in_run))
      (λ test. omega (arith, count_more test run lesser x in_run, ap (λ (k : Kept). one_if (test k)) is, ap (λ n. count_by test (take n run)) less))
    where
      in_run : lesser < length run
      in_run = omega (arith, was.unplaced_in)

      x_at : (d : Kept) → x.stamp ≡ (get_or run lesser d).stamp
      x_at d = ap (λ (k : Kept). k.stamp) (get_or_read run lesser x in_run is d)

  -- once none is left of the run
  pub all_ascends : unplaced ≤ 0 → Ascends list
  all_ascends none i j d le within = elim (cases_lt j left) [
    | inl low ↦
        let there = front_ascends i j d le (omega (arith, was.left_in)) in
        let one = ap (λ (k : Kept). k.stamp) (kept_at front run list left unplaced was i d (omega arith)) in
        let two = ap (λ (k : Kept). k.stamp) (kept_at front run list left unplaced was j d low) in
        omega (arith, there, one, two)
    | inr high ↦ elim (cases_lt i left) [
      | inl low ↦
          let one = ap (λ (k : Kept). k.stamp) (kept_at front run list left unplaced was i d low) in
          omega (arith, one, was.front_below i j d low (omega arith) within)
      | inr up ↦ was.ascends i j d (omega arith) le within
    ]
  ]

  pub all_counted : unplaced ≤ 0 → (test : Kept → Bool) → count_by test list ≡ count_by test front + count_by test run
  all_counted none test =
      let zero : unplaced ≡ 0 = omega arith in
      let parts = sum_by-take-drop (λ x. one_if (test x)) list left in
      let start = ap (count_by test) was.same in
      let no_run = ap (λ n. count_by test (take n run)) zero in
      let end = ap (λ n. count_by test (drop n list)) (let there : left + unplaced ≡ left = omega arith in there) in
      omega (arith, parts, start, no_run, end, was.counted test)

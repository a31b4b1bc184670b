-- For the functions of `pairs`. The pairs of an index, as a set.
use Rattle.std.proofs.Common.{◌≡◌, ℕ, zero, suc, ◌+◌, ◌-◌, ◌<◌, ◌≤◌, Bool, true, false, cond, not, ◌&&◌, ◌||◌, List, [], ◌∷◌, map, filter, take, drop, length, Option, Some, None, bytes_eq, inl, inr, refl, sym, ◌∙◌, ap, subst, arith}
use Rattle.std.specs.Prelude.{Result, Ok, Err, MatchResult, slice_index_or, slice_range, insert, remove, is_some}
use Rattle.std.specs.List.{AllWithin}
use Rattle.std.specs.List.Sorted.{IsPartitionedBy, IsPartitionPoint}
use Rattle.std.specs.Cmp.{IsTotalOrder, then_total, on_total}
use Rattle.std.specs.FinMap.Entries.{put, find, where_key, is_sorted-where_key, is_sorted-put, find-where_key, find-put}
use Rattle.std.specs.FinMap.{IsAntisymmetric, is_sorted}
use Rattle.std.specs.Ordering.{is_lt, is_le, is_eq, eq_by_cmp, ordering_then}
use Rattle.std.specs.declared.cmp.Ordering.{Ordering}
use Rattle.std.specs.declared.cmp.Ordering.TheVariants.{Less, Equal, Greater}
use Rattle.std.proofs.Math.Dec.{T}
use Rattle.std.proofs.lemmas.Bool.{cases_lt, and_parts}
use Rattle.std.proofs.lemmas.Cmp.{nat_list_eq_equiv, tied_itself}
use Rattle.std.proofs.lemmas.Map.Text.{is_eq-slice_cmp}
use Rattle.std.proofs.lemmas.Slice.Eq.{bytes_eq-Decides}
use Rattle.stamps.specs.Key.{key_cmp}
use Rattle.stamps.proofs.KeyLemmas.{key_cmp_total, key_cmp-Equal}
use Rattle.plain_store.specs.Words.{Key, Tag, is_tagged}
use Rattle.secondary_index.specs.declared.pairs.Pair.{Pair}
use Rattle.secondary_index.specs.Ordered.{IsInOrder, StandsAt, BelongsAt}
use Rattle.secondary_index.specs.Layout.{pair_cmp, pair_row, has_pair, is_pair}
use Rattle.secondary_index.proofs.Ordered.{is_less, T-from_IsTrue, IsTrue-from_T, in_order_far, put-BelongsAt, find-StandsAt, find-BelongsAt, without-StandsAt}

-- ---- the order of pairs

pub pair_total : IsTotalOrder pair_cmp
pair_total = then_total (on_total (λ (p : Pair). p.tag) key_cmp_total) (on_total (λ (p : Pair). p.key) key_cmp_total)

pub pair_same : IsAntisymmetric pair_cmp
pair_same p q e =
    elim (key_cmp p.tag q.tag) as (λ r. key_cmp p.tag q.tag ≡ r → ordering_then r (key_cmp p.key q.key) ≡ Equal → p ≡ q) [
      | Less ↦ λ is h. cc
      | Equal ↦ λ is h.
          let tags = key_cmp-Equal p.tag q.tag is in
          let keys = key_cmp-Equal p.key q.key h in
          λ i. record { tag = tags i; key = keys i }
      | Greater ↦ λ is h. cc
    ] refl e

-- two pairs tie where tag and key are the same
pub eq_pair : (p q : Pair) → eq_by_cmp pair_cmp p q ≡ (bytes_eq q.tag p.tag && bytes_eq q.key p.key)
eq_pair p q = by (key_cmp p.tag q.tag) refl
  where
    tags : is_eq (key_cmp p.tag q.tag) ≡ bytes_eq q.tag p.tag
    tags = is_eq-slice_cmp p.tag q.tag ∙ nat_list_eq_equiv.symm p.tag q.tag

    keys : is_eq (key_cmp p.key q.key) ≡ bytes_eq q.key p.key
    keys = is_eq-slice_cmp p.key q.key ∙ nat_list_eq_equiv.symm p.key q.key

    by : (r : Ordering) → key_cmp p.tag q.tag ≡ r → is_eq (ordering_then r (key_cmp p.key q.key)) ≡ (bytes_eq q.tag p.tag && bytes_eq q.key p.key)
    by Less is = ap (λ b. b && bytes_eq q.key p.key) (sym (ap is_eq is) ∙ tags)
    by Equal is = keys ∙ ap (λ b. b && bytes_eq q.key p.key) (sym (ap is_eq is) ∙ tags)
    by Greater is = ap (λ b. b && bytes_eq q.key p.key) (sym (ap is_eq is) ∙ tags)

-- ---- a pair that is taken out, and one that is put in

tied_tests : (pair p q : Pair) → pair_cmp q p ≡ Equal → not (eq_by_cmp pair_cmp pair p) ≡ not (eq_by_cmp pair_cmp pair q)
tied_tests pair p q tie = ap (λ r. not (eq_by_cmp pair_cmp pair r)) (sym (pair_same q p tie))

some_if : (b : Bool) (o : Option (Unit {0})) → is_some (cond (not b) o None) ≡ (is_some o && not b)
some_if true None = refl
some_if true (Some x) = refl
some_if false None = refl
some_if false (Some x) = refl

module _ (pairs : List Pair) (i : ℕ) (tag : Tag) (key : Key) (order : IsInOrder pair_cmp pair_row pairs) (at : StandsAt pair_cmp pair_row (record { tag = tag; key = key }) pairs i) where
  without : where_key pair_cmp (λ p. not (eq_by_cmp pair_cmp (record { tag = tag; key = key }) p)) (map pair_row pairs) ≡ map pair_row (remove pairs i)
  without = without-StandsAt pair_cmp pair_total pair_same pair_row pairs i (record { tag = tag; key = key }) order at

  pub taken_order : IsInOrder pair_cmp pair_row (remove pairs i)
  taken_order = IsTrue-from_T _ (subst (λ ps. T (is_sorted pair_cmp ps)) without (is_sorted-where_key pair_cmp (λ p. not (eq_by_cmp pair_cmp (record { tag = tag; key = key }) p)) (map pair_row pairs) (T-from_IsTrue _ order)))

  pub taken_members : (p : Pair) → has_pair (remove pairs i) p ≡ (has_pair pairs p && not (is_pair key (Some tag) p))
  taken_members p =
      let own : Pair = record { tag = tag; key = key } in
      ap (λ ps. is_some (find pair_cmp p ps)) (sym without)
      ∙ ap is_some (find-where_key pair_cmp (λ q. not (eq_by_cmp pair_cmp own q)) p (λ q tie. tied_tests own q p tie) (map pair_row pairs))
      ∙ some_if (eq_by_cmp pair_cmp own p) (find pair_cmp p (map pair_row pairs))
      ∙ ap (λ b. has_pair pairs p && not b) (eq_pair own p)

  pub was_there : has_pair pairs (record { tag = tag; key = key }) ≡ true
  was_there = ap is_some (find-StandsAt pair_cmp pair_total pair_same pair_row pairs i (record { tag = tag; key = key }) order at (record { tag = []; key = [] }))

some_or : (b : Bool) (o : Option (Unit {0})) → is_some (cond b (Some tt) o) ≡ (is_some o || b)
some_or true None = refl
some_or true (Some x) = refl
some_or false None = refl
some_or false (Some x) = refl

-- a tag that is not empty is carried where it is the same
is_tagged_same : (g tag : Tag) → bytes_eq tag [] ≡ false → is_tagged g tag ≡ bytes_eq tag g
is_tagged_same g tag some = by (bytes_eq tag g) refl
  where
    by : (b : Bool) → bytes_eq tag g ≡ b → (not (bytes_eq g []) && b) ≡ b
    by true is =
        let same = (bytes_eq-Decides tag g).0 is in
        ap (λ t. not (bytes_eq t []) && true) (sym same) ∙ ap (λ b. not b && true) some
    by false is = nothing (not (bytes_eq g []))
      where
        nothing : (b : Bool) → (b && false) ≡ false
        nothing true = refl
        nothing false = refl

module _ (pairs : List Pair) (i : ℕ) (tag : Tag) (key : Key) (at : BelongsAt pair_cmp pair_row (record { tag = tag; key = key }) pairs i) where
  pub was_not_there : has_pair pairs (record { tag = tag; key = key }) ≡ false
  was_not_there = ap is_some (find-BelongsAt pair_cmp pair_total pair_same pair_row pairs i (record { tag = tag; key = key }) at)

  with_pair : put pair_cmp (record { tag = tag; key = key }) tt (map pair_row pairs) ≡ map pair_row (insert pairs i (record { tag = tag; key = key }))
  with_pair = put-BelongsAt pair_cmp pair_total pair_same pair_row pairs i (record { tag = tag; key = key }) at

  pub added_order : IsInOrder pair_cmp pair_row pairs → IsInOrder pair_cmp pair_row (insert pairs i (record { tag = tag; key = key }))
  added_order order = IsTrue-from_T _ (subst (λ ps. T (is_sorted pair_cmp ps)) with_pair (is_sorted-put pair_cmp pair_total (record { tag = tag; key = key }) tt (map pair_row pairs) (T-from_IsTrue _ order)))

  pub added_members : bytes_eq tag [] ≡ false → (p : Pair) → has_pair (insert pairs i (record { tag = tag; key = key })) p ≡ (has_pair pairs p || (is_tagged p.tag tag && bytes_eq p.key key))
  added_members some p =
      let own : Pair = record { tag = tag; key = key } in
      let test : eq_by_cmp pair_cmp p own ≡ (is_tagged p.tag tag && bytes_eq p.key key) =
      eq_pair p own ∙ (λ i. sym (is_tagged_same p.tag tag some) i && nat_list_eq_equiv.symm key p.key i) in
      ap (λ ps. is_some (find pair_cmp p ps)) (sym with_pair) ∙ ap is_some (find-put pair_cmp pair_total p own tt (map pair_row pairs))
      ∙ some_or (eq_by_cmp pair_cmp p own) (find pair_cmp p (map pair_row pairs)) ∙ ap (λ b. has_pair pairs p || b) test

-- a pair that was not there is not missed
pub not_missed : (pairs : List Pair) (key : Key) (tag : Tag) → has_pair pairs (record { tag = tag; key = key }) ≡ false → (p : Pair) → has_pair pairs p ≡ (has_pair pairs p && not (is_pair key (Some tag) p))
not_missed pairs key tag none p = by (is_pair key (Some tag) p) refl
  where
    whole : (b : Bool) → b ≡ (b && true)
    whole true = refl
    whole false = refl

    by : (b : Bool) → is_pair key (Some tag) p ≡ b → has_pair pairs p ≡ (has_pair pairs p && not b)
    by false is = whole (has_pair pairs p)
    by true is =
        let parts = and_parts _ _ is in
        let same : p ≡ record { tag = tag; key = key } = λ i. record { tag = (bytes_eq-Decides p.tag tag).0 parts.0 i; key = (bytes_eq-Decides p.key key).0 parts.1 i } in
        let gone = ap (has_pair pairs) same ∙ none in
        gone ∙ ap (λ b. b && false) (sym gone)

-- ---- the pairs with one tag

-- so many elements from an index on, where a test passes there alone
filter_between : (q : Pair → Bool) (xs : List Pair) (a n : ℕ) → a + n ≤ length xs → AllWithin (λ x. q x ≡ false) xs 0 a → AllWithin (λ x. q x ≡ true) xs a (a + n) → AllWithin (λ x. q x ≡ false) xs (a + n) (length xs)
    → take n (drop a xs) ≡ filter q xs
filter_between q [] zero zero within before inside after = refl
filter_between q [] zero (suc n) within before inside after = absurd (omega arith)
filter_between q [] (suc a) n within before inside after = absurd (omega arith)
filter_between q (x ∷ xs) zero zero within before inside after =
    let first = after 0 x (omega arith) (omega arith) in
    let rest = filter_between q xs 0 0 (omega arith) (λ k d from to. absurd (omega arith)) (λ k d from to. absurd (omega arith)) (λ k d from to. after (suc k) d (omega arith) (omega arith)) in
    rw first rest
filter_between q (x ∷ xs) zero (suc n) within before inside after =
    let first = inside 0 x (omega arith) (omega arith) in
    let rest = filter_between q xs 0 n (omega arith) (λ k d from to. absurd (omega arith)) (λ k d from to. inside (suc k) d (omega arith) (omega arith)) (λ k d from to. after (suc k) d (omega arith) (omega arith)) in
    rw first (ap (λ ys. x ∷ ys) rest)
filter_between q (x ∷ xs) (suc a) n within before inside after =
    let first = before 0 x (omega arith) (omega arith) in
    let rest = filter_between q xs a n (omega arith) (λ k d from to. before (suc k) d (omega arith) (omega arith)) (λ k d from to. inside (suc k) d (omega arith) (omega arith)) (λ k d from to. after (suc k) d (omega arith) (omega arith)) in
    rw first rest

-- a later pair has no lesser tag
tags_rise : (p q : Pair) → pair_cmp p q ≡ Less → is_le (key_cmp p.tag q.tag) ≡ true
tags_rise p q less =
    elim (key_cmp p.tag q.tag) as (λ r. ordering_then r (key_cmp p.key q.key) ≡ Less → is_le r ≡ true) [
      | Less ↦ λ h. refl
      | Equal ↦ λ h. refl
      | Greater ↦ λ h. cc
    ] less

lt_le : (r : Ordering) → is_lt r ≡ true → is_le r ≡ true
lt_le Less h = refl
lt_le Equal h = cc
lt_le Greater h = cc

module _ (pairs : List Pair) (tag : Tag) (order : IsInOrder pair_cmp pair_row pairs) where
  rise : (i j : ℕ) (d : Pair) → i ≤ j → j < length pairs → is_le (key_cmp (slice_index_or pairs i d).tag (slice_index_or pairs j d).tag) ≡ true
  rise i j d before within = elim (cases_lt i j) [
    | inl apart ↦ tags_rise (slice_index_or pairs i d) (slice_index_or pairs j d) (in_order_far pair_cmp pair_total pair_same pair_row pairs order i j d apart within)
    | inr level ↦ let here : i ≡ j = omega arith in rw here (ap is_le (tied_itself key_cmp_total (slice_index_or pairs j d).tag))
  ]

  -- below a tag that is above, and at most one that is at least as great
  less_down : (a b : Tag) → is_le (key_cmp a b) ≡ true → is_lt (key_cmp b tag) ≡ true → is_lt (key_cmp a tag) ≡ true
  less_down a b le lt =
      elim (key_cmp a b) as (λ r. key_cmp a b ≡ r → is_le r ≡ true → is_lt (key_cmp a tag) ≡ true) [
        | Less ↦ λ is h. ap is_lt (key_cmp_total.trans a b tag is (is_less _ lt))
        | Equal ↦ λ is h. rw (key_cmp-Equal a b is) lt
        | Greater ↦ λ is h. cc
      ] refl le

  at_most_down : (a b : Tag) → is_le (key_cmp a b) ≡ true → is_le (key_cmp b tag) ≡ true → is_le (key_cmp a tag) ≡ true
  at_most_down a b le le' =
      elim (key_cmp b tag) as (λ r. key_cmp b tag ≡ r → is_le r ≡ true → is_le (key_cmp a tag) ≡ true) [
        | Less ↦ λ is h. lt_le _ (less_down a b le (ap is_lt is))
        | Equal ↦ λ is h. rw (← (key_cmp-Equal b tag is)) le
        | Greater ↦ λ is h. cc
      ] refl le'

  pub parted_below : IsPartitionedBy (λ (p : Pair). is_lt (key_cmp p.tag tag)) pairs
  parted_below i j d before within passed = less_down (slice_index_or pairs i d).tag (slice_index_or pairs j d).tag (rise i j d before within) passed

  pub parted_at_most : IsPartitionedBy (λ (p : Pair). is_le (key_cmp p.tag tag)) pairs
  parted_at_most i j d before within passed = at_most_down (slice_index_or pairs i d).tag (slice_index_or pairs j d).tag (rise i j d before within) passed

  same_tag : (g : Tag) → is_eq (key_cmp g tag) ≡ bytes_eq g tag
  same_tag g = is_eq-slice_cmp g tag

  lt_ne : (r : Ordering) → is_lt r ≡ true → is_eq r ≡ false
  lt_ne Less h = refl
  lt_ne Equal h = cc
  lt_ne Greater h = cc

  le_eq : (r : Ordering) → is_lt r ≡ false → is_le r ≡ true → is_eq r ≡ true
  le_eq Less h k = cc
  le_eq Equal h k = refl
  le_eq Greater h k = cc

  gt_ne : (r : Ordering) → is_le r ≡ false → is_eq r ≡ false
  gt_ne Less h = cc
  gt_ne Equal h = cc
  gt_ne Greater h = refl

  module _ (first end : ℕ) (low : IsPartitionPoint (λ (p : Pair). is_lt (key_cmp p.tag tag) ≡ true) (λ (p : Pair). is_lt (key_cmp p.tag tag) ≡ false) pairs first)
      (high : IsPartitionPoint (λ (p : Pair). is_le (key_cmp p.tag tag) ≡ true) (λ (p : Pair). is_le (key_cmp p.tag tag) ≡ false) pairs end) (within : first ≤ length pairs) where
    pub first-end : first ≤ end
    first-end = elim (cases_lt end first) [
      | inl above ↦
          let d : Pair = record { tag = []; key = [] } in
          let less = low.0 end d (omega arith) above in
          let more = high.1 end d (omega arith) (omega arith) in
          let le = lt_le _ less in
          cc
      | inr fine ↦ fine
    ]

    pub under_range : end ≤ length pairs → slice_range pairs first end ≡ filter (λ (p : Pair). bytes_eq p.tag tag) pairs
    under_range ends =
        let ordered = first-end in
        filter_between (λ (p : Pair). bytes_eq p.tag tag) pairs first (end - first) (omega arith)
        (λ k d from to. sym (same_tag (slice_index_or pairs k d).tag) ∙ lt_ne _ (low.0 k d from to))
        (λ k d from to. sym (same_tag (slice_index_or pairs k d).tag) ∙ le_eq _ (low.1 k d from (omega arith)) (high.0 k d (omega arith) (omega arith)))
        (λ k d from to. sym (same_tag (slice_index_or pairs k d).tag) ∙ gt_ne _ (high.1 k d (omega arith) to))

-- where a search reports no place, it reports the other kind
pub belongs_somewhere : (P Q : ℕ → Type 0) (r : Result ℕ ℕ) → MatchResult r P Q → ((i : ℕ) → r ≡ Ok i → ⊥) → (i : ℕ) × Q i
belongs_somewhere P Q (Ok i) found other = absurd (other i refl)
belongs_somewhere P Q (Err i) found other = (i, found)

pub stands_somewhere : (P Q : ℕ → Type 0) (r : Result ℕ ℕ) → MatchResult r P Q → ((i : ℕ) → r ≡ Err i → ⊥) → (i : ℕ) × P i
stands_somewhere P Q (Ok i) found other = (i, found)
stands_somewhere P Q (Err i) found other = absurd (other i refl)

-- For `TagIndex::under`. The pairs with a tag are the keys under it.
use Rattle.std.proofs.Common.{◌≡◌, ℕ, zero, suc, ◌<◌, ◌≤◌, Bool, true, false, cond, List, [], ◌∷◌, ◌++◌, ◌+◌, map, filter, length, take, drop, get_or, set, min, Some, is_some, bytes_eq, inl, inr, refl, sym, ◌∙◌, ap, arith}
use Rattle.std.specs.Prelude.{All, AllPairs, not}
use Rattle.std.specs.FinMap.{get, is_sorted}
use Rattle.std.specs.FinMap.Entries.{below_all, find}
use Rattle.std.specs.Ordering.{is_eq, eq_by_cmp, ordering_then}
use Rattle.std.specs.declared.cmp.Ordering.TheVariants.{Less, Equal, Greater}
use Rattle.std.proofs.lemmas.Bool.{and_parts, cases_lt}
use Rattle.std.proofs.lemmas.Cmp.{tied_itself}
use Rattle.std.proofs.lemmas.Slice.Eq.{bytes_eq-Decides}
use Rattle.std.proofs.lemmas.List.{length-map, length-take, length-take-le, length-drop, get_or-take, get_or-drop, take_all, take_more_set, map_more}
use Rattle.std.proofs.lemmas.List.Elements.{All-nil, All-cons}
use Rattle.std.proofs.lemmas.List.Filters.{length-filter_both}
use Rattle.std.proofs.lemmas.List.Kept.{AllPairs-cons}
use Rattle.std.proofs.lemmas.List.Sorted.{IsPermutation-refl}
use Rattle.stamps.specs.Key.{key_cmp, IsKeyBelow, IsAscending}
use Rattle.stamps.specs.Limits.{max_found}
use Rattle.stamps.proofs.KeyLemmas.{key_cmp_total, IsAscending-distinct}
use Rattle.stamps.proofs.SortLemmas.{sorted_keys-from_sort}
use Rattle.plain_store.specs.Words.{Key, Tag, Findings}
use Rattle.plain_store.specs.FoundKeys.{IsFound}
use Rattle.plain_store.proofs.Counting.{In, In-map, map-In, In-filter, filter-In}
use Rattle.secondary_index.specs.declared.entries.TaggedKey.{TaggedKey}
use Rattle.secondary_index.specs.declared.pairs.Pair.{Pair}
use Rattle.secondary_index.specs.Index.{findings_of, keys_under, carries_tag}
use Rattle.secondary_index.specs.Layout.{tags_of, pair_cmp, pair_row, has_pair, paired_keys, Holds}
use Rattle.secondary_index.proofs.Findings.{AllPairs-nil, under_ascends, under_carries, carries_under, same_findings}
use Rattle.secondary_index.proofs.Members.{pair_total, pair_same}
use Rattle.secondary_index.proofs.Ordered.{is_less}

-- ---- the keys of the pairs with one tag ascend

same_tag_below : (p q : Pair) → p.tag ≡ q.tag → pair_cmp p q ≡ Less → IsKeyBelow p.key q.key
same_tag_below p q same less =
    let tie : key_cmp p.tag q.tag ≡ Equal = rw same (tied_itself key_cmp_total q.tag) in
    record { less = sym (ap (λ r. ordering_then r (key_cmp p.key q.key)) tie) ∙ less }

below_paired : (p : Pair) (tag : Tag) → p.tag ≡ tag → (pairs : List Pair) → below_all pair_cmp p (map pair_row pairs) ≡ true → All (IsKeyBelow p.key) (paired_keys tag pairs)
below_paired p tag own [] h = All-nil (IsKeyBelow p.key)
below_paired p tag own (q ∷ pairs) h = by (bytes_eq q.tag tag) refl (below_paired p tag own pairs (and_parts _ _ h).1)
  where
    by : (b : Bool) → bytes_eq q.tag tag ≡ b → All (IsKeyBelow p.key) (paired_keys tag pairs)
        → All (IsKeyBelow p.key) (map (λ (r : Pair). r.key) (cond b (q ∷ filter (λ (r : Pair). bytes_eq r.tag tag) pairs) (filter (λ (r : Pair). bytes_eq r.tag tag) pairs)))
    by true is rest = All-cons (IsKeyBelow p.key) q.key _ (same_tag_below p q (own ∙ sym ((bytes_eq-Decides q.tag tag).0 is)) (is_less _ (and_parts _ _ h).0)) rest
    by false is rest = rest

paired_ascend : (tag : Tag) (pairs : List Pair) → is_sorted pair_cmp (map pair_row pairs) ≡ true → IsAscending (paired_keys tag pairs)
paired_ascend tag [] h = AllPairs-nil IsKeyBelow
paired_ascend tag (q ∷ pairs) h = by (bytes_eq q.tag tag) refl (paired_ascend tag pairs (and_parts _ _ h).1)
  where
    by : (b : Bool) → bytes_eq q.tag tag ≡ b → IsAscending (paired_keys tag pairs)
        → IsAscending (map (λ (r : Pair). r.key) (cond b (q ∷ filter (λ (r : Pair). bytes_eq r.tag tag) pairs) (filter (λ (r : Pair). bytes_eq r.tag tag) pairs)))
    by true is rest = AllPairs-cons IsKeyBelow q.key _ (below_paired q tag ((bytes_eq-Decides q.tag tag).0 is) pairs (and_parts _ _ h).0) rest
    by false is rest = rest

-- ---- what is found stands in the list

pair_found : (pairs : List Pair) (p : Pair) → has_pair pairs p ≡ true → In p pairs
pair_found [] p h = cc
pair_found (q ∷ pairs) p h = by (eq_by_cmp pair_cmp p q) refl h (pair_found pairs p)
  where
    equal : (b : Bool) → eq_by_cmp pair_cmp p q ≡ true → pair_cmp p q ≡ Equal
    equal b h = elim (pair_cmp p q) as (λ r. is_eq r ≡ true → r ≡ Equal) [ Less ↦ λ e. cc | Equal ↦ λ e. refl | Greater ↦ λ e. cc ] h

    by : (b : Bool) → eq_by_cmp pair_cmp p q ≡ b → is_some (cond b (Some tt) (find pair_cmp p (map pair_row pairs))) ≡ true → (has_pair pairs p ≡ true → In p pairs) → In p (q ∷ pairs)
    by true is h rest = inl (sym (pair_same p q (equal true is)))
    by false is h rest = inr (rest h)

found_pair : (pairs : List Pair) (p : Pair) → In p pairs → has_pair pairs p ≡ true
found_pair [] p i = elim i [ ]
found_pair (q ∷ pairs) p (inl same) =
    let tie : pair_cmp p q ≡ Equal = rw same (tied_itself pair_total p) in
    ap (λ r. is_some (cond (is_eq r) (Some tt) (find pair_cmp p (map pair_row pairs)))) tie
found_pair (q ∷ pairs) p (inr later) = by (eq_by_cmp pair_cmp p q) (found_pair pairs p later)
  where
    by : (b : Bool) → has_pair pairs p ≡ true → is_some (cond b (Some tt) (find pair_cmp p (map pair_row pairs))) ≡ true
    by true h = refl
    by false h = h

-- ---- the findings

take_min : {X : Type 0} (n : ℕ) (xs : List X) → take (min (length xs) n) xs ≡ take n xs
take_min n xs =
    elim (cases_lt n (length xs)) [
      | inl more ↦ let least : min (length xs) n ≡ n = omega arith in ap (λ m. take m xs) least
      | inr whole ↦ let least : min (length xs) n ≡ length xs = omega arith in ap (λ m. take m xs) least ∙ take_all (length xs) xs (omega arith) ∙ sym (take_all n xs whole)
    ]

map_take : {X Y : Type 0} (f : X → Y) (n : ℕ) (xs : List X) → map f (take n xs) ≡ take n (map f xs)
map_take f zero xs = refl
map_take f (suc n) [] = refl
map_take f (suc n) (x ∷ xs) = ap (λ ys. f x ∷ ys) (map_take f n xs)

AllPairs-take : {X : Type 0} (R : X → X → Type 0) (n : ℕ) (xs : List X) → AllPairs R xs → AllPairs R (take n xs)
AllPairs-take R n xs pairs i j d before within =
    let short = length-take n xs in
    let first : i < n = omega (arith, short) in
    let second : j < n = omega (arith, short) in
    rw (get_or-take, get_or-take) (pairs i j d before (omega (arith, short)))

module _ (entries : List TaggedKey) (pairs : List Pair) (holds : Holds entries pairs) (tag : Tag) where
  keys_ascend : IsAscending (paired_keys tag pairs)
  keys_ascend = paired_ascend tag pairs holds.pairs_in_order

  paired_carries : (key : Key) → In key (paired_keys tag pairs) → carries_tag tag (get (tags_of entries) key) ≡ true
  paired_carries key i =
      let of = In-map (λ (p : Pair). p.key) key (filter (λ (p : Pair). bytes_eq p.tag tag) pairs) i in
      let passed = In-filter (λ (p : Pair). bytes_eq p.tag tag) of.0 pairs of.1 in
      let tags = (bytes_eq-Decides of.0.tag tag).0 passed.1 in
      (λ j. carries_tag (sym tags j) (get (tags_of entries) (sym of.2 j))) ∙ sym (holds.members of.0) ∙ found_pair pairs of.0 passed.0

  carries_paired : (key : Key) → carries_tag tag (get (tags_of entries) key) ≡ true → In key (paired_keys tag pairs)
  carries_paired key h =
      let own : Pair = record { tag = tag; key = key } in
      let there = pair_found pairs own (holds.members own ∙ h) in
      map-In (λ (p : Pair). p.key) own (filter (λ (p : Pair). bytes_eq p.tag tag) pairs) (filter-In (λ (p : Pair). bytes_eq p.tag tag) own pairs there ((bytes_eq-Decides tag tag).1 refl))

  pub paired_findings : ◌≡◌ {A = Findings} (record { count = length (paired_keys tag pairs); keys = take max_found (paired_keys tag pairs) }) (findings_of (keys_under (tags_of entries) tag))
  paired_findings =
      let own = sorted_keys-from_sort (paired_keys tag pairs) (paired_keys tag pairs) (IsPermutation-refl _) keys_ascend in
      (λ i. record { count = length (paired_keys tag pairs); keys = take max_found (own i) })
      ∙ same_findings (paired_keys tag pairs) (keys_under (tags_of entries) tag) (IsAscending-distinct _ keys_ascend) (IsAscending-distinct _ (under_ascends (tags_of entries) tag))
      (λ key i. carries_under (tags_of entries) tag key (paired_carries key i)) (λ key i. carries_paired key (under_carries (tags_of entries) tag key i))

  -- the count, and the keys that were copied
  module _ (under : List Pair) (count told : ℕ) (keys : List Key) (under_is : under ≡ filter (λ (p : Pair). bytes_eq p.tag tag) pairs) (count_is : count ≡ length under) (told_is : told ≡ min count max_found)
      (copied : take told keys ≡ map (λ (p : Pair). p.key) (take told under)) where
    counted : count ≡ length (paired_keys tag pairs)
    counted = count_is ∙ ap length under_is ∙ sym (length-map (filter (λ (p : Pair). bytes_eq p.tag tag) pairs) (λ (p : Pair). p.key))

    first : take told keys ≡ take max_found (paired_keys tag pairs)
    first =
        copied ∙ ap (λ n. map (λ (p : Pair). p.key) (take n under)) (told_is ∙ ap (λ n. min n max_found) count_is) ∙ ap (map (λ (p : Pair). p.key)) (take_min max_found under) ∙ map_take (λ (p : Pair). p.key) max_found under
        ∙ ap (λ ps. take max_found (map (λ (p : Pair). p.key) ps)) under_is

    pub copied_is : ◌≡◌ {A = Findings} (record { count = count; keys = take told keys }) (findings_of (keys_under (tags_of entries) tag))
    copied_is = (λ i. record { count = counted i; keys = first i }) ∙ paired_findings

    pub copied_IsFound : IsFound (record { count = count; keys = take told keys })
    copied_IsFound = record {
      ascending = rw first (AllPairs-take IsKeyBelow max_found (paired_keys tag pairs) keys_ascend);
      as_many = ap length first ∙ length-take max_found (paired_keys tag pairs) ∙ omega (arith, counted);
    }

  -- nothing is reported where there is no pair
  pub nothing_told : (under : List Pair) → under ≡ filter (λ (p : Pair). bytes_eq p.tag tag) pairs → length under ≡ 0 → ◌≡◌ {A = Findings} (record { count = 0; keys = [] }) (findings_of (keys_under (tags_of entries) tag))
  nothing_told under under_is empty =
      let no_key : length (paired_keys tag pairs) ≡ 0 = length-map (filter (λ (p : Pair). bytes_eq p.tag tag) pairs) (λ (p : Pair). p.key) ∙ ap length (sym under_is) ∙ empty in
      sym (nothing (paired_keys tag pairs) no_key) ∙ paired_findings
    where
      nothing : (ks : List Key) → length ks ≡ 0 → ◌≡◌ {A = Findings} (record { count = length ks; keys = take max_found ks }) (record { count = 0; keys = [] })
      nothing [] h = refl
      nothing (k ∷ ks) h = cc

-- one more key is copied
pub copied_more : (pairs : List Pair) (first i : ℕ) (p : Pair) (keys : List Key) → first + i < length pairs → p ≡ get_or pairs (first + i) p → i < length keys → take i keys ≡ map (λ (p : Pair). p.key) (take i (drop first pairs))
    → take (i + 1) (set keys i p.key) ≡ map (λ (p : Pair). p.key) (take (i + 1) (drop first pairs))
copied_more pairs first i p keys within is room so_far =
    let here : get_or (drop first pairs) i p ≡ p = get_or-drop first pairs i p ∙ sym is in
    take_more_set keys i p.key room
    ∙ (λ j. so_far j ++ (sym here j).key ∷ [])
    ∙ sym (map_more (λ (p : Pair). p.key) (drop first pairs) i p (omega (arith, length-drop first pairs)))

-- so many pairs from the first on, where there are so many
pub so_many : (pairs : List Pair) (first count : ℕ) → first + count ≤ length pairs → length (take count (drop first pairs)) ≡ count
so_many pairs first count within = length-take-le count (drop first pairs) (omega (arith, length-drop first pairs))

pub under_at_most : (tag : Tag) (pairs : List Pair) → length (filter (λ (p : Pair). bytes_eq p.tag tag) pairs) ≤ length pairs
under_at_most tag pairs =
    let q = λ (p : Pair). bytes_eq p.tag tag in
    omega (arith, length-filter_both q (λ p. not (q p)) (λ p. refl) pairs)

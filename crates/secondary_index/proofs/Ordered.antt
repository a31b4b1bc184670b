-- For the functions of `entries` and `pairs`, and the search for an item in a cell. Lists in the order of their elements' keys, as finite maps.
use Rattle.std.proofs.Common.{◌≡◌, ℕ, zero, suc, ◌+◌, ◌-◌, ◌<◌, ◌≤◌, Bool, true, false, not, List, [], ◌∷◌, map, length, Some, None, inl, inr, refl, sym, ◌∙◌, ap, subst, arith, le_refl}
use Rattle.std.specs.Prelude.{IsTrue, Result, Ok, Err, MatchResult, slice_index_or, slice_set, insert, remove}
use Rattle.std.specs.List.Sorted.{IsSearchInRange, IsBinarySearchResult}
use Rattle.std.specs.Cmp.{IsTotalOrder}
use Rattle.std.specs.FinMap as fin
use Rattle.std.specs.FinMap.Entries.{put, below_all, find, where_key}
use Rattle.std.specs.FinMap.{FinMap, IsAntisymmetric, is_sorted, from_sorted, entries}
use Rattle.std.specs.Ordering.{is_lt, eq_by_cmp, ordering_index, ordering_reverse}
use Rattle.std.specs.declared.cmp.Ordering.{Ordering}
use Rattle.std.specs.declared.cmp.Ordering.TheVariants.{Less, Equal, Greater}
use Rattle.std.proofs.Math.Dec.{T}
use Rattle.std.proofs.lemmas.Bool.{cases_lt, and_parts}
use Rattle.std.proofs.lemmas.Cmp.{tied_itself}
use Rattle.std.proofs.lemmas.List.{length-map}
use Rattle.secondary_index.specs.Ordered.{IsInOrder, StandsAt, BelongsAt}

pub T-from_IsTrue : (b : Bool) → IsTrue b → T b
T-from_IsTrue b h = subst T (sym h) tt

pub IsTrue-from_T : (b : Bool) → T b → IsTrue b
IsTrue-from_T true h = refl
IsTrue-from_T false h = absurd h

at_most_two : (r : Ordering) → ordering_index r ≤ 2
at_most_two Less = omega arith
at_most_two Equal = omega arith
at_most_two Greater = omega arith

pub is_less : (r : Ordering) → is_lt r ≡ true → r ≡ Less
is_less Less h = refl
is_less Equal h = cc
is_less Greater h = cc

module _ {E K X : Type 0} (R : K → K → Ordering) (o : IsTotalOrder R) (same : IsAntisymmetric R) (row : E → K × X) where
  greater : (j k : K) → R j k ≡ Less → R k j ≡ Greater
  greater j k less = o.antisymm k j ∙ ap ordering_reverse less

  -- ---- the order, index by index

  below_each : (key : K) (es : List E) → below_all R key (map row es) ≡ true → (i : ℕ) (d : E) → i < length es → R key (row (slice_index_or es i d)).0 ≡ Less
  below_each key [] h i d within = absurd (omega arith)
  below_each key (e ∷ es) h zero d within = is_less _ (and_parts _ _ h).0
  below_each key (e ∷ es) h (suc i) d within = below_each key es (and_parts _ _ h).1 i d (omega arith)

  pub in_order_far : (es : List E) → IsInOrder R row es → (i j : ℕ) (d : E) → i < j → j < length es → R (row (slice_index_or es i d)).0 (row (slice_index_or es j d)).0 ≡ Less
  in_order_far [] h i j d before within = absurd (omega arith)
  in_order_far (e ∷ es) h i zero d before within = absurd (omega arith)
  in_order_far (e ∷ es) h zero (suc j) d before within = below_each (row e).0 es (and_parts _ _ h).0 j d (omega arith)
  in_order_far (e ∷ es) h (suc i) (suc j) d before within = in_order_far es (and_parts _ _ h).1 i j d (omega arith) (omega arith)

  -- a later key answers no less to the same search
  rises : (a b key : K) → R a b ≡ Less → ordering_index (R a key) ≤ ordering_index (R b key)
  rises a b key below =
      elim (R a key) as (λ r. R a key ≡ r → ordering_index r ≤ ordering_index (R b key)) [
        | Less ↦ λ less. omega arith
        | Equal ↦ λ tie. let last = greater key b (sym (o.congr a key b tie) ∙ below) in rw last (omega arith)
        | Greater ↦ λ more. let last = greater key b (o.trans key a b (o.antisymm key a ∙ ap ordering_reverse more) below) in rw last (omega arith)
      ] refl

  -- what a binary search for a key reports
  pub searched : (es : List E) (key : K) (r : Result ℕ ℕ) → IsInOrder R row es → IsSearchInRange r (length es)
      → IsBinarySearchResult (λ e. R (row e).0 key) es r → MatchResult r (StandsAt R row key es) (BelongsAt R row key es)
  searched es key (Ok i) order within found = record { within = within; is = λ d. same _ _ (found d) }
  searched es key (Err i) order within between =
      let parted = between (λ a b d le lt. elim (cases_lt a b) [
        | inl apart ↦ rises (row (slice_index_or es a d)).0 (row (slice_index_or es b d)).0 key (in_order_far es order a b d apart lt)
        | inr level ↦ let here : a ≡ b = omega arith in rw here (le_refl _)
      ]) in record {
        within = within;
        below = λ k d from to. parted.0 k d from to;
        above = λ k d from to. o.antisymm key (row (slice_index_or es k d)).0 ∙ ap ordering_reverse (parted.1 k d from to);
      }

  -- a key belongs between two neighbours, one of which is below it and one above
  pub between : (es : List E) (key : K) (i : ℕ) → IsInOrder R row es → i ≤ length es → ((k : ℕ) (d : E) → k + 1 ≡ i → R (row (slice_index_or es k d)).0 key ≡ Less) → ((d : E) → i < length es → R key (row (slice_index_or es i d)).0 ≡ Less) → BelongsAt R row key es i
  between es key i order within before behind = record {
    within = within;
    below = λ k d from to. elim (cases_lt (k + 1) i) [
      | inl far ↦
          let last : (i - 1) + 1 ≡ i = omega arith in
          o.trans (row (slice_index_or es k d)).0 (row (slice_index_or es (i - 1) d)).0 key (in_order_far es order k (i - 1) d (omega arith) (omega arith)) (before (i - 1) d last)
      | inr next ↦ before k d (omega arith)
    ];
    above = λ k d from to. elim (cases_lt i k) [
      | inl far ↦ o.trans key (row (slice_index_or es i d)).0 (row (slice_index_or es k d)).0 (behind d (omega arith)) (in_order_far es order i k d far to)
      | inr here ↦ let same : i ≡ k = omega arith in subst (λ n. R key (row (slice_index_or es n d)).0 ≡ Less) same (behind d (omega arith))
    ];
  }

  -- ---- an element that is changed, one that is new, and one that is taken out

  StandsAt-tail : (key : K) (e : E) (es : List E) (i : ℕ) → StandsAt R row key (e ∷ es) (suc i) → StandsAt R row key es i
  StandsAt-tail key e es i at = record { within = omega (arith, at.within); is = at.is }

  BelongsAt-tail : (key : K) (e : E) (es : List E) (i : ℕ) → BelongsAt R row key (e ∷ es) (suc i) → BelongsAt R row key es i
  BelongsAt-tail key e es i at = record {
    within = omega (arith, at.within);
    below = λ k d from to. at.below (suc k) d (omega arith) (omega arith);
    above = λ k d from to. at.above (suc k) d (omega arith) (omega arith);
  }

  BelongsAt-rest : (key : K) (e : E) (es : List E) → BelongsAt R row key (e ∷ es) 0 → BelongsAt R row key es 0
  BelongsAt-rest key e es at = record {
    within = omega arith;
    below = λ k d from to. absurd (omega arith);
    above = λ k d from to. at.above (suc k) d (omega arith) (omega arith);
  }

  -- a key that stands further on is above the first
  stands_above : (key : K) (e : E) (es : List E) (i : ℕ) → IsInOrder R row (e ∷ es) → StandsAt R row key (e ∷ es) (suc i) → R key (row e).0 ≡ Greater
  stands_above key e es i order at =
      let here = at.is e in
      greater (row e).0 key (rw here at (below_each (row e).0 es (and_parts _ _ order).0 i e (omega (arith, at.within))))

  pub put-StandsAt : (es : List E) (i : ℕ) (new : E) → IsInOrder R row es → StandsAt R row (row new).0 es i → put R (row new).0 (row new).1 (map row es) ≡ map row (slice_set es i new)
  put-StandsAt [] i new order at = absurd (omega (arith, at.within))
  put-StandsAt (e ∷ es) zero new order at =
      let here : (row e).0 ≡ (row new).0 = at.is e in
      let tie : R (row new).0 (row e).0 ≡ Equal = rw here (tied_itself o (row new).0) in
      rw (tie, here) refl
  put-StandsAt (e ∷ es) (suc i) new order at =
      let more = stands_above (row new).0 e es i order at in
      let rest = put-StandsAt es i new (and_parts _ _ order).1 (StandsAt-tail (row new).0 e es i at) in
      rw (more, rest) refl

  pub put-BelongsAt : (es : List E) (i : ℕ) (new : E) → BelongsAt R row (row new).0 es i → put R (row new).0 (row new).1 (map row es) ≡ map row (insert es i new)
  put-BelongsAt [] i new at = let none : i ≡ 0 = omega (arith, at.within) in rw none refl
  put-BelongsAt (e ∷ es) zero new at = rw (at.above 0 e (omega arith) (omega arith)) refl
  put-BelongsAt (e ∷ es) (suc i) new at =
      let more = greater (row e).0 (row new).0 (at.below 0 e (omega arith) (omega arith)) in
      let rest = put-BelongsAt es i new (BelongsAt-tail (row new).0 e es i at) in
      rw (more, rest) refl

  pub find-StandsAt : (es : List E) (i : ℕ) (key : K) → IsInOrder R row es → StandsAt R row key es i → (d : E) → find R key (map row es) ≡ Some (row (slice_index_or es i d)).1
  find-StandsAt [] i key order at d = absurd (omega (arith, at.within))
  find-StandsAt (e ∷ es) zero key order at d =
      let here : (row e).0 ≡ key = at.is e in
      let tie : R key (row e).0 ≡ Equal = rw here (tied_itself o key) in
      rw tie refl
  find-StandsAt (e ∷ es) (suc i) key order at d =
      let more = stands_above key e es i order at in
      rw more (find-StandsAt es i key (and_parts _ _ order).1 (StandsAt-tail key e es i at) d)

  pub find-BelongsAt : (es : List E) (i : ℕ) (key : K) → BelongsAt R row key es i → find R key (map row es) ≡ None
  find-BelongsAt [] i key at = refl
  find-BelongsAt (e ∷ es) zero key at =
      let less = at.above 0 e (omega arith) (omega arith) in
      rw less (find-BelongsAt es 0 key (BelongsAt-rest key e es at))
  find-BelongsAt (e ∷ es) (suc i) key at =
      let more = greater (row e).0 key (at.below 0 e (omega arith) (omega arith)) in
      rw more (find-BelongsAt es i key (BelongsAt-tail key e es i at))

  -- nothing but the key's own element is taken out
  all_other : (key : K) (es : List E) → below_all R key (map row es) ≡ true → where_key R (λ k. not (eq_by_cmp R key k)) (map row es) ≡ map row es
  all_other key [] h = refl
  all_other key (e ∷ es) h =
      let less : R key (row e).0 ≡ Less = is_less _ (and_parts _ _ h).0 in
      rw less (ap (λ rest. row e ∷ rest) (all_other key es (and_parts _ _ h).1))

  below_tie : (j k : K) (es : List E) → j ≡ k → below_all R j (map row es) ≡ true → below_all R k (map row es) ≡ true
  below_tie j k es is h = rw is at h

  pub without-StandsAt : (es : List E) (i : ℕ) (key : K) → IsInOrder R row es → StandsAt R row key es i → where_key R (λ k. not (eq_by_cmp R key k)) (map row es) ≡ map row (remove es i)
  without-StandsAt [] i key order at = absurd (omega (arith, at.within))
  without-StandsAt (e ∷ es) zero key order at =
      let here : (row e).0 ≡ key = at.is e in
      let tie : R key (row e).0 ≡ Equal = rw here (tied_itself o key) in
      rw tie (all_other key es (below_tie (row e).0 key es here (and_parts _ _ order).0))
  without-StandsAt (e ∷ es) (suc i) key order at =
      let more = stands_above key e es i order at in
      let rest = without-StandsAt es i key (and_parts _ _ order).1 (StandsAt-tail key e es i at) in
      rw (more, rest) refl

  -- ---- the finite map

  abbrev pub map_of : List E → FinMap R X
  map_of es = from_sorted (map row es)

  pub entries-map_of : (es : List E) → IsInOrder R row es → entries (map_of es) ≡ map row es
  entries-map_of es order = fin.entries-from_sorted R (map row es) (T-from_IsTrue _ order)

  pub len-map_of : (es : List E) → IsInOrder R row es → fin.len (map_of es) ≡ length es
  len-map_of es order = fin.len-entries (map_of es) ∙ ap length (entries-map_of es order) ∙ length-map es row

  pub get-map_of : (es : List E) → IsInOrder R row es → (key : K) → fin.get (map_of es) key ≡ find R key (map row es)
  get-map_of es order key = fin.get-entries (map_of es) key ∙ ap (find R key) (entries-map_of es order)

  pub map_of-nil : map_of [] ≡ fin.empty
  map_of-nil = fin.same_map o same _ _ (λ q. get-map_of [] refl q ∙ sym (fin.get-empty R q))

  -- a list whose rows are those of a map is in order, and that map's list
  module _ (new : List E) (m : FinMap R X) (is : entries m ≡ map row new) where
    pub in_order_as : IsInOrder R row new
    in_order_as = IsTrue-from_T _ (subst (λ ps. T (is_sorted R ps)) is (fin.entries_sorted m))

    pub map_of_as : map_of new ≡ m
    map_of_as = fin.same_map o same _ _ (λ q. get-map_of new in_order_as q ∙ ap (find R q) (sym is) ∙ sym (fin.get-entries m q))

  pub entries_put : (es new : List E) (key : K) (x : X) → IsInOrder R row es → put R key x (map row es) ≡ map row new → entries (fin.insert (map_of es) key x) ≡ map row new
  entries_put es new key x order is = fin.entries-insert o (map_of es) key x ∙ ap (put R key x) (entries-map_of es order) ∙ is

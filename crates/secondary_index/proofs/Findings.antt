-- For `TagIndex::set` and `under`, their laws. What stands under a tag does not depend on how the keys are listed.
use Rattle.std.proofs.Common.{◌≡◌, ◌≢◌, Bool, true, false, cond, List, [], ◌∷◌, map, filter, length, take, Option, Some, None, bytes_eq, inl, inr, refl, sym, ◌∙◌, ap, subst, arith}
use Rattle.std.specs.Prelude.{All, AllPairs}
use Rattle.std.specs.List.{list_any}
use Rattle.std.specs.FinMap as fin
use Rattle.std.specs.FinMap.Entries.{below_all, find}
use Rattle.std.specs.FinMap.{is_sorted, entries, get}
use Rattle.std.specs.Ordering.{ordering_reverse}
use Rattle.std.specs.declared.cmp.Ordering.TheVariants.{Less, Equal, Greater}
use Rattle.std.proofs.Math.Dec.{T}
use Rattle.std.proofs.lemmas.Bool.{and_parts, or_parts}
use Rattle.std.proofs.lemmas.Cmp.{tied_itself, nat_list_eq_equiv}
use Rattle.std.proofs.lemmas.Map.Text.{is_eq-slice_cmp}
use Rattle.std.proofs.lemmas.Slice.Eq.{bytes_eq-Decides}
use Rattle.std.proofs.lemmas.List.Elements.{All-nil, All-cons}
use Rattle.std.proofs.lemmas.List.Kept.{AllPairs-cons, AllPairs-filter}
use Rattle.std.proofs.lemmas.List.Sorted.{Contains-permutation, IsPermutation-sym, length_permutation}
use Rattle.stamps.specs.Key.{key_cmp, IsKeyBelow, IsAscending, sorted_keys}
use Rattle.stamps.specs.Limits.{max_found}
use Rattle.stamps.proofs.KeyLemmas.{key_cmp_total, key_cmp-Equal, below_from_lt, IsAscending-distinct}
use Rattle.stamps.proofs.SortLemmas.{ascending_unique, sorted_keys-IsPermutation, sorted_keys-IsAscending}
use Rattle.plain_store.specs.Words.{Key, Tag, is_tagged}
use Rattle.plain_store.specs.Log.{distinct}
use Rattle.plain_store.proofs.Counting.{In, In-map, map-In, In-filter, filter-In, any_in, In-from_Contains, Contains-from_In}
use Rattle.plain_store.proofs.Logs.{any_distinct}
use Rattle.secondary_index.specs.Index.{Tags, findings_of, keys_under, carries_tag, Setting, last_tag, IsIndexOf, keys_last_set_to}

pub AllPairs-nil : {X : Type 0} (R : X → X → Type 0) → AllPairs R []
AllPairs-nil R i j d before within = absurd (omega arith)

-- ---- entries in the order of their keys

below_filtered : (key : Key) (p : Key × Tag → Bool) (es : List (Key × Tag)) → below_all key_cmp key es ≡ true → All (IsKeyBelow key) (map (λ e. e.0) (filter p es))
below_filtered key p [] h = All-nil (IsKeyBelow key)
below_filtered key p (e ∷ es) h =
    let parts = and_parts _ _ h in
    let rest = below_filtered key p es parts.1 in
    elim (p e) as (λ b. All (IsKeyBelow key) (map (λ e. e.0) (cond b (e ∷ filter p es) (filter p es)))) [
      | true ↦ All-cons (IsKeyBelow key) e.0 _ ((below_from_lt key e.0 _ refl).0 parts.0) rest
      | false ↦ rest
    ]

filtered_ascends : (p : Key × Tag → Bool) (es : List (Key × Tag)) → is_sorted key_cmp es ≡ true → IsAscending (map (λ e. e.0) (filter p es))
filtered_ascends p [] h = AllPairs-nil IsKeyBelow
filtered_ascends p (e ∷ es) h =
    let parts = and_parts _ _ h in
    let rest = filtered_ascends p es parts.1 in
    elim (p e) as (λ b. IsAscending (map (λ e. e.0) (cond b (e ∷ filter p es) (filter p es)))) [
      | true ↦ AllPairs-cons IsKeyBelow e.0 _ (below_filtered e.0 p es parts.0) rest
      | false ↦ rest
    ]

below_member : (key : Key) (es : List (Key × Tag)) → below_all key_cmp key es ≡ true → (e : Key × Tag) → In e es → IsKeyBelow key e.0
below_member key [] h e i = elim i [ ]
below_member key (f ∷ es) h e (inl same) = let P : Key × Tag → Type 0 = λ g. IsKeyBelow key g.0 in subst P same ((below_from_lt key f.0 _ refl).0 (and_parts _ _ h).0)
below_member key (f ∷ es) h e (inr later) = below_member key es (and_parts _ _ h).1 e later

find_member : (es : List (Key × Tag)) → is_sorted key_cmp es ≡ true → (e : Key × Tag) → In e es → find key_cmp e.0 es ≡ Some e.1
find_member [] h e i = elim i [ ]
find_member (f ∷ es) h e (inl same) =
    let tie = tied_itself key_cmp_total f.0 in
    let P : Key × Tag → Type 0 = λ g. find key_cmp g.0 (f ∷ es) ≡ Some g.1 in
    subst P same (rw tie refl)
find_member (f ∷ es) h e (inr later) =
    let below = below_member f.0 es (and_parts _ _ h).0 e later in
    let greater : key_cmp e.0 f.0 ≡ Greater = key_cmp_total.antisymm e.0 f.0 ∙ ap ordering_reverse below.less in
    rw greater (find_member es (and_parts _ _ h).1 e later)

member_found : (es : List (Key × Tag)) (key : Key) (tag : Tag) → find key_cmp key es ≡ Some tag → In (key, tag) es
member_found [] key tag h = cc
member_found (e ∷ es) key tag h =
    elim (key_cmp key e.0) as (λ r. key_cmp key e.0 ≡ r → In (key, tag) (e ∷ es)) [
      | Less ↦ λ is. inr (member_found es key tag (rw is at h))
      | Equal ↦ λ is.
          let found : Some e.1 ≡ Some tag = rw is at h in
          let tags : e.1 ≡ tag = cc in
          let keys = key_cmp-Equal key e.0 is in
          inl (λ i. (sym keys i, tags i))
      | Greater ↦ λ is. inr (member_found es key tag (rw is at h))
    ] refl

IsTrue-from_T : (b : Bool) → T b → b ≡ true
IsTrue-from_T true h = refl
IsTrue-from_T false h = absurd h

in_order : (tags : Tags) → is_sorted key_cmp (entries tags) ≡ true
in_order tags = IsTrue-from_T _ (fin.entries_sorted tags)

-- ---- the keys under a tag

pub under_ascends : (tags : Tags) (tag : Tag) → IsAscending (keys_under tags tag)
under_ascends tags tag = filtered_ascends (λ e. is_tagged tag e.1) (entries tags) (in_order tags)

pub under_carries : (tags : Tags) (tag : Tag) (key : Key) → In key (keys_under tags tag) → carries_tag tag (get tags key) ≡ true
under_carries tags tag key i =
    let of = In-map (λ e. e.0) key (filter (λ e. is_tagged tag e.1) (entries tags)) i in
    let passed = In-filter (λ e. is_tagged tag e.1) of.0 (entries tags) of.1 in
    let found = fin.get-entries tags key ∙ ap (λ k. find key_cmp k (entries tags)) (sym of.2) ∙ find_member (entries tags) (in_order tags) of.0 passed.0 in
    ap (carries_tag tag) found ∙ passed.1

pub carries_under : (tags : Tags) (tag : Tag) (key : Key) → carries_tag tag (get tags key) ≡ true → In key (keys_under tags tag)
carries_under tags tag key h = of (get tags key) refl h
  where
    of : (o : Option Tag) → get tags key ≡ o → carries_tag tag o ≡ true → In key (keys_under tags tag)
    of None is h = cc
    of (Some own) is h =
        let member = member_found (entries tags) key own (sym (fin.get-entries tags key) ∙ is) in
        map-In (λ e. e.0) (key, own) (filter (λ e. is_tagged tag e.1) (entries tags)) (filter-In (λ e. is_tagged tag e.1) (key, own) (entries tags) member h)

-- two lists of distinct keys with the same members give the same findings
pub same_findings : (xs ys : List Key) → AllPairs (λ j k. j ≢ k) xs → AllPairs (λ j k. j ≢ k) ys → ((key : Key) → In key xs → In key ys) → ((key : Key) → In key ys → In key xs) → findings_of xs ≡ findings_of ys
same_findings xs ys dx dy forth back =
    let px = sorted_keys-IsPermutation xs in
    let py = sorted_keys-IsPermutation ys in
    let same : sorted_keys xs ≡ sorted_keys ys = ascending_unique (sorted_keys xs) (sorted_keys ys) (sorted_keys-IsAscending xs dx) (sorted_keys-IsAscending ys dy)
    (λ k i. Contains-permutation ys (sorted_keys ys) k py (Contains-from_In ys k (forth k (In-from_Contains xs k (Contains-permutation (sorted_keys xs) xs k (IsPermutation-sym _ _ px) i)))))
    (λ k i. Contains-permutation xs (sorted_keys xs) k px (Contains-from_In xs k (back k (In-from_Contains ys k (Contains-permutation (sorted_keys ys) ys k (IsPermutation-sym _ _ py) i))))) in
    let long : length xs ≡ length ys = sym (length_permutation xs (sorted_keys xs) px) ∙ ap length same ∙ length_permutation ys (sorted_keys ys) py in
    λ i. record { count = long i; keys = take max_found (same i) }

-- Where an index reports of each key what `look` reports, and whichever distinct keys are listed that have all which carry the tag:
-- what the index reports of the tag is what those of the list that carry it give.
pub findings_by : (tags : Tags) (look : Key → Option Tag) (keys : List Key) (tag : Tag) → ((key : Key) → get tags key ≡ look key) → AllPairs (λ j k. j ≢ k) keys
    → ((key : Key) → carries_tag tag (look key) ≡ true → In key keys) → findings_of (keys_under tags tag) ≡ findings_of (filter (λ key. carries_tag tag (look key)) keys)
findings_by tags look keys tag is distinct all =
    same_findings (keys_under tags tag) (filter (λ key. carries_tag tag (look key)) keys) (IsAscending-distinct _ (under_ascends tags tag)) (AllPairs-filter (λ j k. j ≢ k) (λ key. carries_tag tag (look key)) keys distinct)
    (λ key i.
    let carried = ap (carries_tag tag) (sym (is key)) ∙ under_carries tags tag key i in
    filter-In (λ k. carries_tag tag (look k)) key keys (all key carried) carried)
    (λ key i. carries_under tags tag key (ap (carries_tag tag) (is key) ∙ (In-filter (λ k. carries_tag tag (look k)) key keys i).1))

-- ---- after a list of calls

none_equal : (key : Key) (keys : List Key) → list_any (bytes_eq key) keys ≡ false → All (λ j. key ≢ j) keys
none_equal key [] h = All-nil (λ j. key ≢ j)
none_equal key (k ∷ ks) h =
    let parts = or_parts _ _ h in
    All-cons (λ j. key ≢ j) k ks (λ same. let yes = (bytes_eq-Decides key k).1 same in let no = parts.0 in cc) (none_equal key ks parts.1)

pub distinct-AllPairs : (keys : List Key) → AllPairs (λ j k. j ≢ k) (distinct keys)
distinct-AllPairs [] = AllPairs-nil (λ j k. j ≢ k)
distinct-AllPairs (key ∷ keys) = by (list_any (bytes_eq key) keys) refl (distinct-AllPairs keys)
  where
    by : (b : Bool) → list_any (bytes_eq key) keys ≡ b → AllPairs (λ j k. j ≢ k) (distinct keys) → AllPairs (λ j k. j ≢ k) (cond b (distinct keys) (key ∷ distinct keys))
    by true is rest = rest
    by false is rest = AllPairs-cons (λ j k. j ≢ k) key (distinct keys) (none_equal key (distinct keys) (any_distinct key keys ∙ is)) rest

was_set : (settings : List Setting) (key : Key) (tag : Tag) → carries_tag tag (last_tag settings key) ≡ true → list_any (bytes_eq key) (map (λ (s : Setting). s.key) settings) ≡ true
was_set [] key tag h = cc
was_set (s ∷ before) key tag h = by (bytes_eq s.key key) refl h (was_set before key tag)
  where
    by : (b : Bool) → bytes_eq s.key key ≡ b → carries_tag tag (cond b (Some s.tag) (last_tag before key)) ≡ true → (carries_tag tag (last_tag before key) ≡ true → list_any (bytes_eq key) (map (λ (s : Setting). s.key) before) ≡ true)
        → list_any (bytes_eq key) (s.key ∷ map (λ (s : Setting). s.key) before) ≡ true
    by true is h rest = let same = (bytes_eq-Decides key s.key).1 (sym ((bytes_eq-Decides s.key key).0 is)) in grind arith
    by false is h rest = let later = rest h in grind arith

set_keys : (settings : List Setting) (key : Key) (tag : Tag) → carries_tag tag (last_tag settings key) ≡ true → In key (distinct (map (λ (s : Setting). s.key) settings))
set_keys settings key tag h =
    let keys = map (λ (s : Setting). s.key) settings in
    let found = any_in (bytes_eq key) (distinct keys) (any_distinct key keys ∙ was_set settings key tag h) in
    let P : Key → Type 0 = λ k. In k (distinct keys) in
    subst P (sym ((bytes_eq-Decides key found.0).0 found.2)) found.1

-- after any list of calls an index reports of a tag how many keys were last set to it, and the first of these
pub findings-last_set : (tags : Tags) (tag : Tag) (settings : List Setting) → IsIndexOf tags settings → findings_of (keys_under tags tag) ≡ findings_of (keys_last_set_to settings tag)
findings-last_set tags tag settings is =
    findings_by tags (last_tag settings) (distinct (map (λ (s : Setting). s.key) settings)) tag is (distinct-AllPairs (map (λ (s : Setting). s.key) settings)) (λ key h. set_keys settings key tag h)

-- a key's last tag after one more call
-- a tag that the key has already changes nothing
pub insert-same : (tags : Tags) (key : Key) (tag : Tag) → get tags key ≡ Some tag → fin.insert tags key tag ≡ tags
insert-same tags key tag has =
    fin.same_map key_cmp_total key_cmp-Equal (fin.insert tags key tag) tags (λ q.
    let tests = is_eq-slice_cmp q key ∙ nat_list_eq_equiv.symm q key in
    fin.get-insert key_cmp_total tags key tag q ∙ ap (λ b. cond b (Some tag) (get tags q)) tests ∙ by q (bytes_eq key q) refl)
  where
    by : (q : Key) (b : Bool) → bytes_eq key q ≡ b → cond b (Some tag) (get tags q) ≡ get tags q
    by q true e = sym has ∙ ap (get tags) ((bytes_eq-Decides key q).0 e)
    by q false e = refl

pub IsIndexOf-set : (tags : Tags) (key : Key) (tag : Tag) (settings : List Setting) → IsIndexOf tags settings → IsIndexOf (fin.insert tags key tag) (record { key = key; tag = tag } ∷ settings)
IsIndexOf-set tags key tag settings is q =
    let tests = is_eq-slice_cmp q key ∙ nat_list_eq_equiv.symm q key in
    fin.get-insert key_cmp_total tags key tag q ∙ (λ i. cond (tests i) (Some tag) (is q i))

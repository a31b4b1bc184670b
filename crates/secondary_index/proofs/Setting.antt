-- For `TagIndex`, all its functions. What `set` does to the lists of an index.
use Rattle.std.proofs.Common.{◌≡◌, ℕ, ◌+◌, ◌<◌, ◌≤◌, Bool, true, false, cond, not, ◌&&◌, ◌||◌, List, [], map, length, count_by, Option, Some, None, unwrap_or, is_some, bytes_eq, ◌⊎◌, inl, inr, refl, sym, ◌∙◌, ap, arith}
use Rattle.std.specs.Prelude.{IsTrue, Result, Ok, Err, is_ok, MatchResult}
use Rattle.std.specs.Option.{option_eq}
use Rattle.std.specs.FinMap.Entries.{find}
use Rattle.std.specs.FinMap as fin
use Rattle.std.specs.FinMap.{get}
use Rattle.std.proofs.lemmas.Cmp.{nat_list_eq_equiv}
use Rattle.std.proofs.lemmas.List.Sums.{count_by-le-length}
use Rattle.std.proofs.lemmas.Map.Text.{is_eq-slice_cmp}
use Rattle.std.proofs.lemmas.Slice.Eq.{bytes_eq-Decides}
use Rattle.stamps.specs.Key.{key_cmp}
use Rattle.stamps.proofs.KeyLemmas.{key_cmp_total, key_cmp-Equal}
use Rattle.plain_store.specs.Words.{Key, Tag, is_tagged}
use Rattle.secondary_index.specs.declared.entries.TaggedKey.{TaggedKey}
use Rattle.secondary_index.specs.declared.pairs.Pair.{Pair}
use Rattle.secondary_index.specs.Index.{Tags, Index, HasPlace, carries_tag}
use Rattle.secondary_index.specs.Ordered.{IsInOrder, StandsAt, BelongsAt}
use Rattle.secondary_index.specs.Layout.{entry_row, tags_of, is_tagged_entry, has_pair, has_own, is_pair, Holds}
use Rattle.secondary_index.proofs.Ordered.{len-map_of, get-map_of, find-StandsAt, find-BelongsAt, map_of-nil}

own_bytes : (bs : List ℕ) → bytes_eq bs bs ≡ true
own_bytes bs = (bytes_eq-Decides bs bs).1 refl

and_false : (b : Bool) → (b && false) ≡ false
and_false true = refl
and_false false = refl

and_true : (b : Bool) → (b && true) ≡ b
and_true true = refl
and_true false = refl

or_false : (b : Bool) → (b || false) ≡ b
or_false true = refl
or_false false = refl

-- a key that had this tag is no more among the others
not_both : (g : Tag) (key : Key) (p : Pair) (old : Option Tag) → bytes_eq p.key key ≡ true → (carries_tag p.tag old && not (is_pair key old p)) ≡ false
not_both g key p None own = refl
not_both g key p (Some o) own = by (bytes_eq o p.tag) refl
  where
    by : (b : Bool) → bytes_eq o p.tag ≡ b → ((not (bytes_eq p.tag []) && b) && not (bytes_eq p.tag o && bytes_eq p.key key)) ≡ false
    by true is =
        let turned : bytes_eq p.tag o ≡ true = nat_list_eq_equiv.symm p.tag o ∙ is in
        ap (λ b. (not (bytes_eq p.tag []) && true) && not (b && bytes_eq p.key key)) turned ∙ ap (λ b. (not (bytes_eq p.tag []) && true) && not b) own ∙ and_false (not (bytes_eq p.tag []) && true)
    by false is = ap (λ b. b && not (bytes_eq p.tag o && bytes_eq p.key key)) (and_false (not (bytes_eq p.tag [])))

-- another key's pair stays
not_its_pair : (key : Key) (p : Pair) (old : Option Tag) → bytes_eq p.key key ≡ false → is_pair key old p ≡ false
not_its_pair key p None other = refl
not_its_pair key p (Some o) other = ap (λ b. bytes_eq p.tag o && b) other ∙ and_false (bytes_eq p.tag o)

-- a key that had this tag, as a test of the two reports
pub same_tag : (eq : Tag → Tag → Bool) → ((x y : Tag) → eq x y ≡ true → x ≡ y) → (old : Option Tag) (tag : Tag) → option_eq eq old (Some tag) ≡ true → old ≡ Some tag
same_tag eq decides None tag h = absurd cc
same_tag eq decides (Some x) tag h = ap Some (decides x tag h)

module _ (entries : List TaggedKey) (pairs : List Pair) (holds : Holds entries pairs) (key : Key) (tag : Tag) (new : List TaggedKey) (old : Option Tag)
    (tags_is : tags_of new ≡ fin.insert (tags_of entries) key tag) (old_is : old ≡ get (tags_of entries) key) where
  -- a key has one pair where it carries a tag
  one_pair : ◌≡◌ {A = ℕ} (cond (has_own pairs key old) 1 0) (cond (bytes_eq (unwrap_or old []) []) 0 1)
  one_pair = by old refl
    where
      chosen : (b : Bool) → ◌≡◌ {A = ℕ} (cond (not b) 1 0) (cond b 0 1)
      chosen true = refl
      chosen false = refl

      by : (o : Option Tag) → old ≡ o → ◌≡◌ {A = ℕ} (cond (has_own pairs key o) 1 0) (cond (bytes_eq (unwrap_or o []) []) 0 1)
      by None is = refl
      by (Some o) is =
          ap (λ b. cond b 1 0) (holds.members (record { tag = o; key = key }) ∙ ap (carries_tag o) (sym old_is ∙ is) ∙ ap (λ b. not (bytes_eq o []) && b) (own_bytes o) ∙ and_true (not (bytes_eq o [])))
          ∙ chosen (bytes_eq o [])

  -- where the key had this tag already
  module _ (same : old ≡ Some tag) where
    pub kept_members : (p : Pair) → has_pair pairs p ≡ carries_tag p.tag (get (tags_of new) p.key)
    kept_members p =
        holds.members p
        ∙ ap (carries_tag p.tag) (by (bytes_eq p.key key) refl ∙ sym (ap (λ t. get t p.key) tags_is ∙ fin.get-insert key_cmp_total (tags_of entries) key tag p.key ∙ ap (λ b. cond b (Some tag) (get (tags_of entries) p.key)) (is_eq-slice_cmp p.key key)))
      where
        by : (b : Bool) → bytes_eq p.key key ≡ b → get (tags_of entries) p.key ≡ cond (bytes_eq p.key key) (Some tag) (get (tags_of entries) p.key)
        by true own =
            ap (get (tags_of entries)) ((bytes_eq-Decides p.key key).0 own) ∙ sym old_is ∙ same
            ∙ sym (ap (λ b. cond b (Some tag) (get (tags_of entries) p.key)) own)
        by false other = sym (ap (λ b. cond b (Some tag) (get (tags_of entries) p.key)) other)

    pub kept_count : count_by is_tagged_entry new + cond (bytes_eq (unwrap_or old []) []) 0 1 ≡ count_by is_tagged_entry entries + cond (bytes_eq tag []) 0 1
        → length pairs ≡ count_by is_tagged_entry new
    kept_count count =
        let level : ◌≡◌ {A = ℕ} (cond (bytes_eq (unwrap_or old []) []) 0 1) (cond (bytes_eq tag []) 0 1) = ap (λ (o : Option Tag). cond (bytes_eq (unwrap_or o []) []) 0 1) same in
        omega (arith, count, level, holds.as_many)

  module _ (taken : List Pair) (taken_is : (p : Pair) → has_pair taken p ≡ (has_pair pairs p && not (is_pair key old p))) where
    pub absent : has_pair taken (record { tag = tag; key = key }) ≡ false
    absent =
        taken_is (record { tag = tag; key = key })
        ∙ ap (λ b. b && not (is_pair key old (record { tag = tag; key = key }))) (holds.members (record { tag = tag; key = key }) ∙ ap (carries_tag tag) (sym old_is))
        ∙ not_both tag key (record { tag = tag; key = key }) old (own_bytes key)

    pub set_members : (final : List Pair) → ((p : Pair) → has_pair final p ≡ (has_pair taken p || (is_tagged p.tag tag && bytes_eq p.key key)))
        → (p : Pair) → has_pair final p ≡ carries_tag p.tag (get (tags_of new) p.key)
    set_members final final_is p =
        final_is p ∙ ap (λ b. b || (is_tagged p.tag tag && bytes_eq p.key key)) (taken_is p) ∙ by (bytes_eq p.key key) refl
        ∙ ap (carries_tag p.tag) (sym (ap (λ t. get t p.key) tags_is ∙ fin.get-insert key_cmp_total (tags_of entries) key tag p.key ∙ ap (λ b. cond b (Some tag) (get (tags_of entries) p.key)) (is_eq-slice_cmp p.key key)))
      where
        by : (b : Bool) → bytes_eq p.key key ≡ b
            → ((has_pair pairs p && not (is_pair key old p)) || (is_tagged p.tag tag && bytes_eq p.key key)) ≡ carries_tag p.tag (cond (bytes_eq p.key key) (Some tag) (get (tags_of entries) p.key))
        by true own =
            let same = (bytes_eq-Decides p.key key).0 own in
            let gone : (has_pair pairs p && not (is_pair key old p)) ≡ false =
            ap (λ b. b && not (is_pair key old p)) (holds.members p ∙ ap (λ k. carries_tag p.tag (get (tags_of entries) k)) same ∙ ap (carries_tag p.tag) (sym old_is)) ∙ not_both tag key p old own in
            ap (λ b. b || (is_tagged p.tag tag && bytes_eq p.key key)) gone ∙ ap (λ b. is_tagged p.tag tag && b) own ∙ and_true (is_tagged p.tag tag)
            ∙ sym (ap (λ b. carries_tag p.tag (cond b (Some tag) (get (tags_of entries) p.key))) own)
        by false other =
            ap (λ b. (has_pair pairs p && not b) || (is_tagged p.tag tag && bytes_eq p.key key)) (not_its_pair key p old other)
            ∙ ap (λ b. (has_pair pairs p && true) || (is_tagged p.tag tag && b)) other ∙ ap (λ b. (has_pair pairs p && true) || b) (and_false (is_tagged p.tag tag))
            ∙ or_false (has_pair pairs p && true) ∙ and_true (has_pair pairs p) ∙ holds.members p
            ∙ sym (ap (λ b. carries_tag p.tag (cond b (Some tag) (get (tags_of entries) p.key))) other)

    module _ (taken_len : length taken + cond (has_own pairs key old) 1 0 ≡ length pairs)
        (count : count_by is_tagged_entry new + cond (bytes_eq (unwrap_or old []) []) 0 1 ≡ count_by is_tagged_entry entries + cond (bytes_eq tag []) 0 1) where
      pub set_count : (final : List Pair) → length final ≡ length taken + cond (bytes_eq tag []) 0 1 → length final ≡ count_by is_tagged_entry new
      set_count final final_len = omega (arith, final_len, taken_len, count, one_pair, holds.as_many)

      -- there is room for the pair
      pub pair_fits : bytes_eq tag [] ≡ false → length taken < length new
      pair_fits some =
          let one : ◌≡◌ {A = ℕ} (cond (bytes_eq tag []) 0 1) 1 = ap (λ b. cond b 0 1) some in
          omega (arith, taken_len, count, one, one_pair, holds.as_many, count_by-le-length is_tagged_entry new)

-- an index of entries
module _ (index : Index) (room : ℕ) (entries : List TaggedKey) (order : IsInOrder key_cmp entry_row entries) (is : ◌≡◌ {A = Index} (record { room = room; tags = tags_of entries }) index) where
  pub tags_are : tags_of entries ≡ index.tags
  tags_are = ap (λ (i : Index). i.tags) is

  pub room_is : index.room ≡ room
  room_is = sym (ap (λ (i : Index). i.room) is)

  pub len_is : fin.len index.tags ≡ length entries
  len_is = ap (λ (t : Tags). fin.len t) (sym tags_are) ∙ len-map_of key_cmp key_cmp_total key_cmp-Equal entry_row entries order

  pub place_is : (key : Key) → HasPlace index key → IsTrue (fin.contains_key (tags_of entries) key) ⊎ (length entries < room)
  place_is key (inl known) = inl (ap (λ (t : Tags). fin.contains_key t key) tags_are ∙ known)
  place_is key (inr left) = inr (omega (arith, left, len_is, room_is))

  -- there is room for the entries with this one
  pub entries_fit : (key : Key) (old : Option Tag) (n : ℕ) → HasPlace index key → old ≡ get (tags_of entries) key → length entries ≤ room → n ≡ cond (is_some old) (length entries) (length entries + 1) → n ≤ room
  entries_fit key old n place old_is within len = by (is_some old) refl (place_is key place)
    where
      by : (b : Bool) → is_some old ≡ b → IsTrue (fin.contains_key (tags_of entries) key) ⊎ (length entries < room) → n ≤ room
      by true known p = let here = len ∙ ap (λ b. cond b (length entries) (length entries + 1)) known in omega (arith, here, within)
      by false new (inl known) = absurd (let no = sym new ∙ ap is_some old_is ∙ known in cc)
      by false new (inr left) = let here = len ∙ ap (λ b. cond b (length entries) (length entries + 1)) new in omega (arith, here, left)

  module _ (new : List TaggedKey) (key : Key) (tag : Tag) (tags_is : tags_of new ≡ fin.insert (tags_of entries) key tag) where
    pub set_tags : tags_of new ≡ fin.insert index.tags key tag
    set_tags = tags_is ∙ ap (λ (t : Tags). fin.insert t key tag) tags_are

    pub set_is : ◌≡◌ {A = Index} (record { room = room; tags = tags_of new }) (record { room = index.room; tags = fin.insert index.tags key tag })
    set_is i = record { room = sym room_is i; tags = set_tags i }

  -- a search reports whether a key is known
  pub searched_is_known : (key : Key) (r : Result ℕ ℕ) → MatchResult r (StandsAt key_cmp entry_row key entries) (BelongsAt key_cmp entry_row key entries) → is_ok r ≡ fin.contains_key index.tags key
  searched_is_known key r at = by r at ∙ ap (λ (t : Tags). fin.contains_key t key) tags_are
    where
      told : fin.get (tags_of entries) key ≡ find key_cmp key (map entry_row entries)
      told = get-map_of key_cmp key_cmp_total key_cmp-Equal entry_row entries order key

      by : (s : Result ℕ ℕ) → MatchResult s (StandsAt key_cmp entry_row key entries) (BelongsAt key_cmp entry_row key entries) → is_ok s ≡ fin.contains_key (tags_of entries) key
      by (Ok i) at = sym (ap is_some (told ∙ find-StandsAt key_cmp key_cmp_total key_cmp-Equal entry_row entries i key order at (record { key = []; tag = [] })))
      by (Err i) at = sym (ap is_some (told ∙ find-BelongsAt key_cmp key_cmp_total key_cmp-Equal entry_row entries i key at))

-- ---- no key is known

pub tags_of-nil : tags_of [] ≡ fin.empty
tags_of-nil = map_of-nil key_cmp key_cmp_total key_cmp-Equal entry_row

pub nothing_holds : Holds [] []
nothing_holds = record {
  in_order = refl;
  pairs_in_order = refl;
  members = λ p. sym (ap (carries_tag p.tag) (ap (λ (t : Tags). get t p.key) tags_of-nil ∙ fin.get-empty key_cmp p.key));
  as_many = refl;
}

-- For `Cell::at` and the module `fill`. What a base has, put into the parts of a cell that holds nothing.
use Rattle.std.proofs.Common.{◌≡◌, ℕ, ◌+◌, ◌<◌, ◌≤◌, Bool, true, false, cond, nat_lt, is_some, unwrap_or, List, [], ◌∷◌, ◌++◌, length, take, get_or, map, count_by, All, Option, Some, None, bytes_eq, inl, inr, refl, sym, ◌∙◌, ap, subst, arith}
use Rattle.std.specs.Prelude.{IsTrue, IsPermutation}
use Rattle.std.specs.FinMap as fin
use Rattle.std.specs.FinMap.{nat_cmp-IsAntisymmetric}
use Rattle.std.specs.FinMap.Entries.{below_all}
use Rattle.std.specs.Ordering.{nat_cmp, is_lt}
use Rattle.std.proofs.lemmas.Cmp.{nat_cmp_total}
use Rattle.std.specs.declared.cmp.Ordering.TheVariants.{Less}
use Rattle.std.proofs.lemmas.List.Sums.{count_by_more_yes, sum_by-take-le}
use Rattle.std.proofs.lemmas.Bool.{both_ways, and_from, false_from_ne_true, cond-true, lt-ltb, cases_lt}
use Rattle.std.proofs.lemmas.List.{same_lists, take_more, length-map, length_push, get_or_append_left, get_or_push, get_or-map, get_or_default}
use Rattle.std.proofs.lemmas.List.Sorted.{All-permutation, IsPermutation-map, sum_by-IsPermutation}
use Rattle.std.proofs.lemmas.List.Elements.{All-nil, All-head, All-tail, All-contains, All-more, All-weaker}
use Rattle.std.proofs.lemmas.Slice.Eq.{bytes_eq-Decides}
use Rattle.stamps.specs.Key.{key_cmp}
use Rattle.stamps.specs.Record.{Record}
use Rattle.plain_store.specs.Log.{Log, is_version, versions, is_kept, items}
use Rattle.plain_store.specs.Words.{Key, Tag, Room}
use Rattle.plain_store.proofs.Counting.{counted, uncounted, count_by-push, count_by-cons, find_is, none_found, any_is, In-filter, Contains-from_In}
use Rattle.plain_store.proofs.Logs.{any_item, is_version-parts, is_version-from}
use Rattle.secondary_index.specs.Ordered.{IsInOrder}
use Rattle.secondary_index.specs.Index.{Index, Tags, tag_of, with_tag}
use Rattle.secondary_index.proofs.Ordered.{map_of-nil}
use Rattle.version_chain.specs.declared.version.Version.{Version}
use Rattle.version_chain.specs.Heads.{Heads}
use Rattle.version_chain.specs.Chain.{Cells, is_of_tenant, Falls, HoldsChains, at_stamp}
use Rattle.prepare_commit.specs.declared.items.KnownItem.{KnownItem}
use Rattle.prepare_commit.specs.declared.fill.StampedPlace.{StampedPlace}
use Rattle.prepare_commit.specs.declared.items.ChainedItem.{ChainedItem}
use Rattle.prepare_commit.specs.InBlock.{Parts, LiesIn, content_in}
use Rattle.prepare_commit.specs.Lists.{SameMembers}
use Rattle.prepare_commit.specs.Content.{Content, entry_at, version_at, IsLatest, KnowsItems}
use Rattle.prepare_commit.specs.Marks.{Marks, marks_of, mark_row}
use Rattle.prepare_commit.specs.Layout.{held_in, chain_lists, chain_at, together, item_chains, entries_of, item_row, committed_version, IsVersionOf, IsLaid, HoldsTogether}
use Rattle.prepare_commit.specs.Serving.{marked_versions, floored, tag_in, latest_tag, StandsFor}
use Rattle.prepare_commit.specs.Bases.{Frozen, Leaves, HasLog, AreOrdered, IsBefore, IsEntryBefore, AreNumbered, NameEach, HasEntry, IsNew, IsTagOf}
use Rattle.prepare_commit.proofs.Chaining.{within, at}
use Rattle.prepare_commit.proofs.Freezing.{same_ordered, laid_ordered}
use Rattle.prepare_commit.proofs.Committed.{tag_none, tag_some}
use Rattle.prepare_commit.proofs.ListsOfLists.{All-from_In}
use Rattle.prepare_commit.proofs.Members.{same_length, same_version, same_version-true, same_version-own, version_kept}
use Rattle.prepare_commit.proofs.Moving.{tag_set, other_set}
use Rattle.prepare_commit.proofs.Since.{kept_nothing}
use Rattle.prepare_commit.proofs.OwnChains.{less_apart, record_is, latest_of, entry_is}
use Rattle.prepare_commit.proofs.SameBase.{version_one_way}
use Rattle.prepare_commit.proofs.StandsAfter.{record_in, item_by_entry, empty_stands}
use Rattle.prepare_commit.proofs.Storing.{nothing_holds}
use Rattle.prepare_commit.proofs.Tagged.{no_tag}

-- ---- the items

all_below : (key : List ℕ) (items : List ChainedItem) → All (λ (e : KnownItem). key_cmp key e.key ≡ Less) (entries_of items) → below_all key_cmp key (map item_row items) ≡ true
all_below key [] h = refl
all_below key (i ∷ items) h =
    and_from (is_lt (key_cmp key i.entry.key)) (below_all key_cmp key (map item_row items))
    (ap is_lt (All-head (λ (e : KnownItem). key_cmp key e.key ≡ Less) i.entry (entries_of items) h))
    (all_below key items (All-tail (λ (e : KnownItem). key_cmp key e.key ≡ Less) i.entry (entries_of items) h))

items_in_order : (items : List ChainedItem) → AreOrdered IsEntryBefore (entries_of items) → IsInOrder key_cmp item_row items
items_in_order [] order = refl
items_in_order (i ∷ items) order = and_from _ _ (all_below i.entry.key items order.0) (items_in_order items order.1)

-- items that were just numbered, whose chains are empty
module _ (items : List ChainedItem) (chains : List (List Version)) (none : (chain : ℕ) → chain_at chains chain ≡ []) where
  pub numbered_laid : AreOrdered IsEntryBefore (entries_of items) → AreNumbered items → IsLaid items chains
  numbered_laid order numbered = record {
    in_order = items_in_order items order;
    apart = λ j k d w u e. sym (numbered j d w) ∙ e ∙ numbered k d u;
    given = λ k d w. let is = numbered k d w in omega (arith, is, w);
    own = λ k d w. subst (All (IsVersionOf (get_or items k d).entry.key)) (sym (none (get_or items k d).chain)) (All-nil (IsVersionOf (get_or items k d).entry.key));
    unused = λ chain past. none chain;
  }

pub nothing_together : (items : List ChainedItem) (chains : List (List Version)) → ((chain : ℕ) → chain_at chains chain ≡ []) → together (item_chains items chains) ≡ []
nothing_together [] chains none = refl
nothing_together (i ∷ items) chains none = λ j. none i.chain j ++ nothing_together items chains none j

-- ---- one more version

-- the item's chain has none of its stamp
pub chain_has_none : (items : List ChainedItem) (chains : List (List Version)) (place : ℕ) (i : ChainedItem) (v : Version) → IsLaid items chains → place < length items → i ≡ get_or items place i → i.entry.key ≡ v.prepared.key
    → version_at v.prepared.key v.prepared.stamp (together (item_chains items chains)) ≡ None → at_stamp (chain_at chains i.chain) v.prepared.stamp ≡ None
chain_has_none items chains place i v laid within is key_is none =
    sym (record_is items chains laid place i within is v.prepared.stamp)
    ∙ ap record_in (ap (λ key. version_at key v.prepared.stamp (together (item_chains items chains))) key_is ∙ none)

-- ---- one version after another

not_before_itself : (v w : Version) → IsBefore v w → v.prepared.key ≡ w.prepared.key → v.prepared.stamp ≡ w.prepared.stamp → ⊥
not_before_itself v w (inl less) key stamp = less_apart v.prepared.key w.prepared.key less key
not_before_itself v w (inr later) key stamp = omega (arith, later.1, stamp)

-- at most one version of an item has a stamp
abbrev pub AreApart : List Version → Type 0
AreApart vs = (key : Key) (stamp : ℕ) → count_by (λ (v : Version). is_version key stamp v.prepared) vs ≤ 1

module _ (key : Key) (stamp : ℕ) where
  abbrev passes : Version → Bool
  passes v = is_version key stamp v.prepared

  none_later : (v : Version) (vs : List Version) → passes v ≡ true → All (IsBefore v) vs → count_by passes vs ≡ 0
  none_later v vs is before = elim (cases_lt 0 (count_by passes vs)) [
    | inr none ↦ omega arith
    | inl more ↦
        let w = counted passes vs more in
        let one = is_version-parts key stamp v.prepared is in
        let other = is_version-parts key stamp w.0.prepared w.2 in
        absurd (not_before_itself v w.0 (All-contains (IsBefore v) vs w.0 before (Contains-from_In vs w.0 w.1)) (one.0 ∙ sym other.0) (one.1 ∙ sym other.1))
  ]

  one_at_most : (vs : List Version) → AreOrdered IsBefore vs → count_by passes vs ≤ 1
  one_at_most [] order = omega arith
  one_at_most (v ∷ vs) order =
      let none : passes v ≡ true → count_by passes vs ≡ 0 = λ e. none_later v vs e order.0 in
      grind (arith, count_by-cons passes v vs, one_at_most vs order.1, none)

pub ordered_apart : (vs : List Version) → AreOrdered IsBefore vs → AreApart vs
ordered_apart vs order key stamp = one_at_most key stamp vs order

-- the order of a list says nothing of that
pub members_apart : (us vs : List Version) → SameMembers us vs → AreApart vs → AreApart us
members_apart us vs same apart key stamp = omega (arith, same (λ (v : Version). is_version key stamp v.prepared), apart key stamp)

module _ (all held : List Version) (k : ℕ) (apart : AreApart all) (within : k < length all) (same : SameMembers held (take k all)) (v : Version) (is : v ≡ get_or all k v) where
  -- the next one is not held
  pub next_is_missing : version_at v.prepared.key v.prepared.stamp held ≡ None
  next_is_missing = none_found passes held (λ x there. false_from_ne_true (passes x) (λ e. absurd (omega (arith, none, uncounted passes x held there e))))
    where
      passes : Version → Bool
      passes x = is_version v.prepared.key v.prepared.stamp x.prepared

      itself : passes (get_or all k v) ≡ true
      itself = subst (λ (x : Version). passes x ≡ true) is (is_version-from v.prepared.key v.prepared.stamp v.prepared refl refl)

      none : count_by passes held ≡ 0
      none = omega (arith, same passes, count_by_more_yes passes all k v within itself, sum_by-take-le (λ (x : Version). cond (passes x) 1 0) all (k + 1), apart v.prepared.key v.prepared.stamp)

module _ (all held : List Version) (k : ℕ) (within : k < length all) (same : SameMembers held (take k all)) (v : Version) (is : v ≡ get_or all k v) where
  -- and then it is
  pub next_members : (new : List Version) → SameMembers new (v ∷ held) → SameMembers new (take (k + 1) all)
  next_members new more test =
      omega (
        arith,
        more test,
        count_by-cons test v held,
        same test,
        ap (count_by test) (take_more all k v within ∙ ap (λ w. take k all ++ w ∷ []) (sym is)),
        count_by-push test v (take k all),
        count_by-cons test v (take k all),
      )

-- ---- the versions in the order of their stamps

-- the versions that the places name
abbrev pub named : Version → List Version → List StampedPlace → List Version
named d versions places = map (λ (p : StampedPlace). get_or versions p.place d) places

-- the place of each element is its number: one more
pub numbered_more : {X : Type 0} (place_of : X → ℕ) (xs new : List X) (x : X) → ((k : ℕ) (d : X) → k < length xs → place_of (get_or xs k d) ≡ k) → place_of x ≡ length xs → new ≡ xs ++ x ∷ [] → (k : ℕ) (d : X) → k < length new → place_of (get_or new k d) ≡ k
numbered_more place_of xs new x numbered is pushed k d w = elim (cases_lt k (length xs)) [
  | inl before ↦ ap (λ ys. place_of (get_or ys k d)) pushed ∙ ap place_of (get_or_append_left xs (x ∷ []) d k before) ∙ numbered k d before
  | inr last ↦
      let level : length xs ≡ k = omega (arith, last, w, ap length pushed, length_push xs x) in
      ap (λ ys. place_of (get_or ys k d)) pushed ∙ ap place_of (get_or_push xs x d k level) ∙ is ∙ level
]

-- the places of all versions, in any order
pub all_named : (versions : List Version) (places new : List StampedPlace) → length places ≡ length versions → ((k : ℕ) (d : StampedPlace) → k < length places → (get_or places k d).place ≡ k) → IsPermutation places new → NameEach new versions
all_named versions places new long numbered moved = record {
  within = All-permutation (λ (p : StampedPlace). p.place < length versions) places new moved (λ k d w. let is = numbered k d w in omega (arith, is, w, long));
  each = λ d test.
      let of_place : StampedPlace → Version = λ p. get_or versions p.place d in
      sum_by-IsPermutation (λ (v : Version). cond (test v) 1 0) (named d versions places) (named d versions new) (IsPermutation-map of_place places new moved)
      ∙ ap (count_by test) (same_lists (named d versions places) versions (length-map places of_place ∙ long) (λ k e w.
      let p : StampedPlace = record { stamp = 0; place = 0 } in
      let within : k < length places = omega (arith, w, length-map places of_place) in
      get_or-map of_place places k p e within ∙ ap (λ n. get_or versions n d) (numbered k p within) ∙ get_or_default versions k d e (omega (arith, within, long))));
}

-- some version
pub no_version : Version
no_version = record { prepared = record { key = []; tag = []; value = []; stamp = 0; writes = [] }; committed = false }

pub names_many : (versions : List Version) (places : List StampedPlace) → NameEach places versions → length places ≡ length versions
names_many versions places names = sym (length-map places (λ (p : StampedPlace). get_or versions p.place no_version)) ∙ same_length (named no_version versions places) versions (names.each no_version)

-- the version at the next place
pub named_next : (d : Version) (versions : List Version) (places : List StampedPlace) (k : ℕ) (p : StampedPlace) (v : Version) → k < length places → p ≡ get_or places k p → p.place < length versions → v ≡ get_or versions p.place v
    → v ≡ get_or (named d versions places) k v
named_next d versions places k p v within is less found =
    found
    ∙ get_or_default versions p.place v d less
    ∙ ap (λ (q : StampedPlace). get_or versions q.place d) is
    ∙ sym (get_or-map (λ (q : StampedPlace). get_or versions q.place d) places k p v within)

pub named_long : (d : Version) (versions : List Version) (places : List StampedPlace) → length (named d versions places) ≡ length places
named_long d versions places = length-map places (λ (p : StampedPlace). get_or versions p.place d)

-- the items of a base's versions have entries
pub versions_known : (base : Frozen) → HasLog base → All (λ (v : Version). HasEntry base.entries v.prepared.key) base.versions
versions_known base has =
    All-from_In (λ (v : Version). HasEntry base.entries v.prepared.key) base.versions (λ v there.
    let log = has.0 in
    let leaves = has.2 in
    let key = v.prepared.key in
    let kept = In-filter (is_kept log) v.prepared (versions log) (version_kept base.versions log leaves.versions v there).0 in
    sym (item_by_entry base.entries log leaves.entries key)
    ∙ any_item key log
    ∙ any_is (λ (r : Record). bytes_eq key r.key) (versions log) v.prepared kept.0 ((bytes_eq-Decides key key).1 refl))

-- ---- the index

-- a key that it knows is that of an entry
abbrev pub KnowsEntries : List KnownItem → Tags → Type 0
KnowsEntries entries tags = (key : Key) → IsTrue (fin.contains_key tags key) → HasEntry entries key

-- each of these items has its tag
abbrev pub AreRight : List Version → Tags → List ChainedItem → Type 0
AreRight versions tags items = All (λ (i : ChainedItem). IsTagOf i.entry.key versions (tag_of tags i.entry.key)) items

pub entries_none : (entries : List KnownItem) (tags : Tags) → tags ≡ fin.empty → KnowsEntries entries tags
entries_none entries tags none key known =
    absurd (both_ways (fin.contains_key tags key) (ap (λ (t : Tags). fin.contains_key t key) none ∙ ap is_some (fin.get-empty key_cmp key)) known)

module _ (items : List ChainedItem) (chains : List (List Version)) (laid : IsLaid items chains) (k : ℕ) (i : ChainedItem) (within : k < length items) (is : i ≡ get_or items k i) (tag : Tag) (tags : Tags) where
  pub has_entry : HasEntry (entries_of items) i.entry.key
  has_entry = ap is_some (entry_is items chains laid k i within is)

  pub entries_more : KnowsEntries (entries_of items) tags → KnowsEntries (entries_of items) (with_tag tags i.entry.key tag)
  entries_more was key known = by (bytes_eq i.entry.key key) refl
    where
      by : (b : Bool) → bytes_eq i.entry.key key ≡ b → HasEntry (entries_of items) key
      by true b = let P : Key → Type 0 = λ q. HasEntry (entries_of items) q in subst P ((bytes_eq-Decides i.entry.key key).0 b) has_entry
      by false b = was key (ap is_some (sym (other_set tags i.entry.key tag key b)) ∙ known)

  abbrev all : List Version
  all = together (item_chains items chains)

  -- one item more
  pub right_more : AreRight all tags (take k items) → IsTagOf i.entry.key (chain_at chains i.chain) tag → AreRight all (with_tag tags i.entry.key tag) (take (k + 1) items)
  right_more was this =
      let R : ChainedItem → Type 0 = λ x. IsTagOf x.entry.key all (tag_of tags x.entry.key) in
      let S : ChainedItem → Type 0 = λ x. IsTagOf x.entry.key all (tag_of (with_tag tags i.entry.key tag) x.entry.key) in
      All-more S items k i within (All-weaker R S (λ x h. by x.entry.key h (bytes_eq i.entry.key x.entry.key) refl) (take k items) was) (subst S is here)
    where
      here : IsTagOf i.entry.key all (tag_of (with_tag tags i.entry.key tag) i.entry.key)
      here = (this.0, latest_of items chains laid k i within is (committed_version this.0) this.1, tag_set tags i.entry.key tag ∙ this.2)

      by : (q : Key) → IsTagOf q all (tag_of tags q) → (b : Bool) → bytes_eq i.entry.key q ≡ b → IsTagOf q all (tag_of (with_tag tags i.entry.key tag) q)
      by q h true b = let P : Key → Type 0 = λ key. IsTagOf key all (tag_of (with_tag tags i.entry.key tag) key) in subst P ((bytes_eq-Decides i.entry.key q).0 b) here
      by q h false b = (h.0, h.1, ap (λ o. unwrap_or o []) (other_set tags i.entry.key tag q b) ∙ h.2)

-- ---- what the cell then stands for

-- an empty cell, as its type reports
pub new_inside : (base_inside base : Frozen) (inside now : Parts) → base_inside ≡ base → inside ≡ now → IsNew base.room now → IsNew base_inside.room inside
new_inside base_inside base inside now base_view view new =
    let P : Frozen → Parts → Type 0 = λ b p. IsNew b.room p in
    subst (λ p. P base_inside p) (sym view) (subst (λ b. P b now) (sym base_view) new)

pub not_yet : {P : Type 0} (keep : ℕ) → None ≡ Some keep → P
not_yet keep e = absurd (let untrue : false ≡ true = ap is_some e in cc)

-- it lies in a block that has no version of its tenant
pub new_lies : (room : Room) (cell : Parts) → IsNew room cell → (block : Cells) → count_by (is_of_tenant cell.chains.tenant) block ≡ 0 → LiesIn block cell
new_lies room cell new block none = record {
  versions = new.lies block none;
  remembers = λ keep e. not_yet keep (sym new.not_collected ∙ e);
  remembers_least = λ keep e. not_yet keep (sym new.none_collected ∙ e);
  since = kept_nothing cell.begun cell.since cell.items (chain_lists block cell.chains) new.no_items;
  holds = rw (new.room_is, new.no_items, new.empty block, new.index) (nothing_holds room.slots room.items);
}

-- and stands for no call
pub new_stands : (room : Room) (cell : Parts) → IsNew room cell → (block : Cells) → StandsFor (content_in block cell) []
new_stands room cell new block =
    let marks : marks_of cell.marks ≡ fin.empty = ap marks_of new.no_marks ∙ map_of-nil nat_cmp nat_cmp_total nat_cmp-IsAntisymmetric mark_row in
    let P : Content → Type 0 = λ content. StandsFor content [] in
    subst P (λ i. record { room = sym new.room_is i; versions = together (item_chains (sym new.no_items i) (chain_lists block cell.chains)); entries = entries_of (sym new.no_items i); tags = (sym new.index i).tags; marks = sym marks i })
    (empty_stands room)

module _ (cell : Content) (log : Log) (versions_are : SameMembers cell.versions (marked_versions log)) (written : All (λ (v : Version). 0 < v.prepared.stamp) cell.versions) (key : Key) where
  latest_tag_is : (tag : Tag) → IsTagOf key cell.versions tag → latest_tag log key ≡ tag
  latest_tag_is tag h = by h.0 h.1 h.2
    where
      by : (o : Option Record) → IsLatest key cell.versions (committed_version o) → tag ≡ tag_in o → latest_tag log key ≡ tag
      by None last is = tag_none cell.versions log versions_are key last ∙ sym is
      by (Some r) last is =
          let u : Version = record { prepared = r; committed = true } in
          let pos = All-contains (λ (v : Version). 0 < v.prepared.stamp) cell.versions u written last.0 in
          tag_some cell.versions log versions_are key u last ∙ cond-true (nat_lt 0 r.stamp) _ _ (lt-ltb 0 r.stamp pos) ∙ sym is

-- a cell that holds what a base does stands for every log that the base stands for
pub filled_stands : (cell : Content) (base : Frozen) → cell.versions ≡ base.versions → cell.entries ≡ base.entries → cell.marks ≡ marks_of base.marks → All (λ (v : Version). 0 < v.prepared.stamp) cell.versions
    → KnowsEntries cell.entries cell.tags → All (λ (e : KnownItem). IsTagOf e.key cell.versions (tag_of cell.tags e.key)) cell.entries → (log : Log) → Leaves base log → StandsFor cell log
filled_stands cell base versions_are entries_are marks_are written known right log leaves = record {
  versions = held;
  entries = listed;
  tags = λ key. by key (entry_at key cell.entries) refl;
  marks = λ client. ap (λ (ms : Marks). fin.get ms client) marks_are ∙ leaves.marks client;
  clients = ap (λ (ms : Marks). fin.len ms) marks_are ∙ leaves.clients;
}
  where
    held : SameMembers cell.versions (marked_versions log)
    held test = ap (count_by test) versions_are ∙ leaves.versions test

    listed : SameMembers cell.entries (floored log)
    listed test = ap (count_by test) entries_are ∙ leaves.entries test

    not_known : (key : Key) (own : Option Tag) → fin.get cell.tags key ≡ own → is_some (entry_at key cell.entries) ≡ false → unwrap_or own [] ≡ []
    not_known key None e none = refl
    not_known key (Some own) e none = absurd (both_ways (is_some (entry_at key cell.entries)) none (known key (ap is_some e)))

    by : (key : Key) (o : Option KnownItem) → entry_at key cell.entries ≡ o → tag_of cell.tags key ≡ latest_tag log key
    by key None e = not_known key (fin.get cell.tags key) refl (ap is_some e) ∙ sym (no_tag log key (item_by_entry cell.entries log listed key ∙ ap is_some e))
    by key (Some x) e =
        let there = find_is (λ (y : KnownItem). bytes_eq y.key key) cell.entries x e in
        let P : Key → Type 0 = λ q. IsTagOf q cell.versions (tag_of cell.tags q) in
        sym (latest_tag_is cell log held written key (tag_of cell.tags key)
        (subst P ((bytes_eq-Decides x.key key).0 there.1) (All-contains (λ (y : KnownItem). IsTagOf y.key cell.versions (tag_of cell.tags y.key)) cell.entries x right (Contains-from_In cell.entries x there.0))))

-- ---- the cell that was filled

module _ (block : Cells) (heads : Heads) (items : List ChainedItem) (versions : List Version) (laid : IsLaid items (chain_lists block heads)) (within_chains : length items ≤ length (chain_lists block heads))
    (members : SameMembers (together (item_chains items (chain_lists block heads))) versions) where
  -- it has the versions in their order
  pub filled_versions : HoldsChains block heads → AreOrdered IsBefore versions → together (item_chains items (chain_lists block heads)) ≡ versions
  filled_versions stands ordered =
      same_ordered IsBefore version_one_way same_version same_version-true same_version-own (together (item_chains items (chain_lists block heads))) versions
      (laid_ordered items (chain_lists block heads) laid falls).0 ordered members
    where
      falls : All (λ (i : ChainedItem). Falls (chain_at (chain_lists block heads) i.chain)) items
      falls k d w =
          let given = laid.given k d w in
          let known : (get_or items k d).chain < length (chain_lists block heads) = omega (arith, given, within_chains) in
          subst Falls (sym (at block heads (get_or items k d).chain known)) (stands.falling (get_or items k d).chain (within block heads (get_or items k d).chain known))

  -- and it holds together
  pub filled_holds : (slots most : ℕ) (index : Index) → heads.used ≡ length versions → length versions ≤ slots → heads.share ≡ slots → length (chain_lists block heads) ≡ most → KnowsItems index.tags (entries_of items) → index.room ≡ most
      → HoldsTogether slots most items (held_in block heads) index
  filled_holds slots most index used fits share long knows room = record {
    laid = laid;
    counted = omega (arith, used, same_length (together (item_chains items (chain_lists block heads))) versions members);
    fits = omega (arith, used, fits);
    share = share;
    chains = long;
    knows = knows;
    room = room;
  }

-- What a cell holds as a base: in order, and so determined by any log that leaves it.
use Rattle.std.proofs.Common.{◌≡◌, ℕ, suc, ◌+◌, ◌<◌, ◌≤◌, Bool, true, cond, List, [], ◌∷◌, ◌++◌, map, length, get_or, All, inl, inr, refl, sym, ◌∙◌, ap, arith, take}
use Rattle.std.specs.declared.cmp.Ordering.TheVariants.{Less}
use Rattle.std.proofs.lemmas.List.{append-nil, map_more, length-map}
use Rattle.std.proofs.lemmas.List.Concat.{flat_map-append}
use Rattle.std.proofs.lemmas.List.Elements.{All-append, All-head, All-tail, All-contains, All-map}
use Rattle.stamps.specs.Key.{key_cmp}
use Rattle.stamps.proofs.KeyLemmas.{key_cmp_total, key_cmp-Equal}
use Rattle.plain_store.proofs.Counting.{In, count_by-cons, Contains-from_In}
use Rattle.secondary_index.specs.Ordered.{IsInOrder}
use Rattle.secondary_index.proofs.Ordered.{in_order_far, map_of-nil}
use Rattle.version_chain.specs.Chain.{Cells, Falls}
use Rattle.version_chain.specs.declared.version.Version.{Version}
use Rattle.prepare_commit.specs.declared.items.ChainedItem.{ChainedItem}
use Rattle.prepare_commit.specs.Lists.{SameMembers}
use Rattle.prepare_commit.specs.Layout.{chain_lists, chain_at, together, item_chains, entries_of, item_row, IsVersionOf, IsLaid}
use Rattle.std.specs.Ordering.{nat_cmp}
use Rattle.std.specs.FinMap as fin
use Rattle.plain_store.specs.Words.{Room}
use Rattle.std.proofs.lemmas.Cmp.{nat_cmp_total}
use Rattle.std.specs.FinMap.{nat_cmp-IsAntisymmetric}
use Rattle.prepare_commit.specs.Marks.{Marks, mark_row, marks_of}
use Rattle.prepare_commit.specs.Bases.{Frozen, Leaves, AreOrdered, IsBefore, IsEntryBefore, IsBase, HasStood, base_of, empty_base}
use Rattle.prepare_commit.specs.InBlock.{Parts, LiesIn}
use Rattle.prepare_commit.proofs.ItemByItem.{all_together}
use Rattle.prepare_commit.proofs.Members.{In-same}
use Rattle.prepare_commit.proofs.Stamped.{falls_all, falls_rest}

-- ---- ordered lists

ordered_by_index : {X : Type 0} (R : X → X → Type 0) (xs : List X) → ((j k : ℕ) (d : X) → j < k → k < length xs → R (get_or xs j d) (get_or xs k d)) → AreOrdered R xs
ordered_by_index R [] h = tt
ordered_by_index R (x ∷ xs) h =
    (λ k d l. h 0 (suc k) d (omega arith) (omega arith), ordered_by_index R xs (λ j k d l m. h (suc j) (suc k) d (omega arith) (omega arith)))

ordered_append : {X : Type 0} (R : X → X → Type 0) (xs ys : List X) → AreOrdered R xs → AreOrdered R ys → ((x : X) → In x xs → All (R x) ys) → AreOrdered R (xs ++ ys)
ordered_append R [] ys ox oy cross = oy
ordered_append R (x ∷ xs) ys ox oy cross =
    (All-append (R x) xs ys ox.0 (cross x (inl refl)), ordered_append R xs ys ox.1 oy (λ z i. cross z (inr i)))

-- two ordered lists with the same members are one
module _ {X : Type 0} (R : X → X → Type 0) (one_way : (x y : X) → R x y → R y x → ⊥) (same : X → X → Bool) (apart : (x y : X) → same x y ≡ true → x ≡ y) (own : (x : X) → same x x ≡ true) where
  first_same : (x y : X) (xs ys : List X) → All (R x) xs → All (R y) ys → In x (y ∷ ys) → In y (x ∷ xs) → x ≡ y
  first_same x y xs ys ox oy (inl e) i = sym e
  first_same x y xs ys ox oy (inr j) (inl e) = e
  first_same x y xs ys ox oy (inr j) (inr i) =
      absurd (one_way x y (All-contains (R x) xs y ox (Contains-from_In xs y i)) (All-contains (R y) ys x oy (Contains-from_In ys x j)))

  pub same_ordered : (xs ys : List X) → AreOrdered R xs → AreOrdered R ys → SameMembers xs ys → xs ≡ ys
  same_ordered [] [] ox oy s = refl
  same_ordered [] (y ∷ ys) ox oy s = absurd (omega (arith, s (λ _. true), count_by-cons (λ _. true) y ys))
  same_ordered (x ∷ xs) [] ox oy s = absurd (omega (arith, s (λ _. true), count_by-cons (λ _. true) x xs))
  same_ordered (x ∷ xs) (y ∷ ys) ox oy s =
      let first = first_same x y xs ys ox.0 oy.0
      (In-same same apart own (x ∷ xs) (y ∷ ys) s x (inl refl))
      (In-same same apart own (y ∷ ys) (x ∷ xs) (λ t. sym (s t)) y (inl refl)) in
      let rest = same_ordered xs ys ox.1 oy.1 (λ t. omega (arith, count_by-cons t x xs, count_by-cons t y ys, s t, ap {B = ℕ} (λ z. cond (t z) 1 0) first)) in
      λ i. first i ∷ rest i

-- ---- the versions of the items

abbrev IsItemBefore : ChainedItem → ChainedItem → Type 0
IsItemBefore i j = key_cmp i.entry.key j.entry.key ≡ Less

items_ordered : (items : List ChainedItem) → IsInOrder key_cmp item_row items → AreOrdered IsItemBefore items
items_ordered items order =
    ordered_by_index IsItemBefore items (λ j k d l m. in_order_far key_cmp key_cmp_total key_cmp-Equal item_row items order j k d l m)

pub entries_ordered : (items : List ChainedItem) → AreOrdered IsItemBefore items → AreOrdered IsEntryBefore (entries_of items)
entries_ordered [] o = tt
entries_ordered (i ∷ items) o = (All-map (IsEntryBefore i.entry) (λ (j : ChainedItem). j.entry) items o.0, entries_ordered items o.1)

chain_ordered : (key : List ℕ) (vs : List Version) → Falls vs → All (IsVersionOf key) vs → AreOrdered IsBefore vs
chain_ordered key [] f own = tt
chain_ordered key (v ∷ vs) f own =
    let mine = All-head (IsVersionOf key) v vs own in
    let others = All-tail (IsVersionOf key) v vs own in
    (λ k d l. inr (mine.key_is ∙ sym (others k d l).key_is, falls_all v.prepared.stamp vs f k d l), chain_ordered key vs (falls_rest v.prepared.stamp vs f) others)

module _ (chains : List (List Version)) where
  later_keys : (v : Version) (i : ChainedItem) → IsVersionOf i.entry.key v → (items : List ChainedItem) → All (IsItemBefore i) items → All (λ (j : ChainedItem). All (IsVersionOf j.entry.key) (chain_at chains j.chain)) items → All (IsBefore v) (together (item_chains items chains))
  later_keys v i mine items before own =
      all_together (IsBefore v) chains items (λ m e w k d l. inl ((λ n. key_cmp (mine.key_is n) ((own m e w k d l).key_is n)) ∙ before m e w))

  pub versions_ordered : (items : List ChainedItem) → AreOrdered IsItemBefore items → All (λ (j : ChainedItem). All (IsVersionOf j.entry.key) (chain_at chains j.chain)) items → All (λ (j : ChainedItem). Falls (chain_at chains j.chain)) items → AreOrdered IsBefore (together (item_chains items chains))
  versions_ordered [] o own falls = tt
  versions_ordered (i ∷ items) o own falls =
      let mine = All-head (λ (j : ChainedItem). All (IsVersionOf j.entry.key) (chain_at chains j.chain)) i items own in
      let others = All-tail (λ (j : ChainedItem). All (IsVersionOf j.entry.key) (chain_at chains j.chain)) i items own in
      ordered_append IsBefore (chain_at chains i.chain) (together (item_chains items chains))
      (chain_ordered i.entry.key (chain_at chains i.chain) (All-head (λ (j : ChainedItem). Falls (chain_at chains j.chain)) i items falls) mine)
      (versions_ordered items o.1 others (All-tail (λ (j : ChainedItem). Falls (chain_at chains j.chain)) i items falls))
      (λ v there. later_keys v i (All-contains (IsVersionOf i.entry.key) (chain_at chains i.chain) v mine (Contains-from_In (chain_at chains i.chain) v there)) items o.0 others)

pub laid_ordered : (items : List ChainedItem) (chains : List (List Version)) → IsLaid items chains → All (λ (j : ChainedItem). Falls (chain_at chains j.chain)) items → AreOrdered IsBefore (together (item_chains items chains)) × AreOrdered IsEntryBefore (entries_of items)
laid_ordered items chains laid falls =
    let o = items_ordered items laid.in_order in (versions_ordered chains items o laid.own falls, entries_ordered items o)

-- a cell's versions and entries, copied in its order, are a base
pub frozen : (block : Cells) (cell : Parts) (base : Frozen) → base ≡ base_of block cell → LiesIn block cell → length cell.items ≤ cell.room.items → All (λ (j : ChainedItem). Falls (chain_at (chain_lists block cell.chains) j.chain)) cell.items
    → IsInOrder nat_cmp mark_row cell.marks → length cell.marks ≤ cell.room.clients → HasStood block cell → IsBase base
frozen block cell base is lies few falls in_order within has =
    let both = laid_ordered cell.items (chain_lists block cell.chains) lies.holds.laid falls in
    rw is (record {
      has_log = (has.0, has.1, record { versions = has.2.versions; entries = has.2.entries; marks = has.2.marks; clients = has.2.clients });
      slots = omega (arith, lies.holds.counted, lies.holds.fits);
      items = omega (arith, few, length-map cell.items (λ (i : ChainedItem). i.entry));
      clients = within;
      versions_ordered = both.0;
      entries_ordered = both.1;
      marks_ordered = in_order;
    })

nothing_marked : marks_of [] ≡ fin.empty
nothing_marked = map_of-nil nat_cmp nat_cmp_total nat_cmp-IsAntisymmetric mark_row

-- no call leaves nothing
pub nothing_left : (room : Room) → Leaves (empty_base room) []
nothing_left room = record { versions = λ t. refl; entries = λ t. refl; marks = λ client. ap (λ (m : Marks). fin.get m client) nothing_marked ∙ fin.get-empty nat_cmp client; clients = ap (λ (m : Marks). fin.len m) nothing_marked ∙ fin.len-empty nat_cmp ℕ }

-- nothing is a base
pub empty_is_base : (room : Room) → IsBase (empty_base room)
empty_is_base room = record {
  has_log = ([], tt, nothing_left room);
  slots = omega arith;
  items = omega arith;
  clients = omega arith;
  versions_ordered = tt;
  entries_ordered = tt;
  marks_ordered = refl;
}

-- one more chain
pub together_more : (items : List ChainedItem) (g : ChainedItem → List Version) (k : ℕ) (i : ChainedItem) → k < length items → i ≡ get_or items k i → together (map g (take (k + 1) items)) ≡ together (map g (take k items)) ++ g i
together_more items g k i within is =
    ap together (map_more g items k i within ∙ ap (λ x. map g (take k items) ++ g x ∷ []) (sym is))
    ∙ flat_map-append (λ (vs : List Version). vs) (map g (take k items)) (g i ∷ [])
    ∙ ap (λ vs. together (map g (take k items)) ++ vs) (append-nil (g i))

-- For the functions of the module `collect`. The items beside their versions, while they are collected one after another.
use Rattle.std.proofs.Common.{◌≡◌, ◌≢◌, ℕ, max, ◌+◌, ◌<◌, ◌==◌, ◌||◌, Bool, true, false, cond, nat_le, List, [], ◌∷◌, map, set, take, filter, length, get_or, refl, sym, ap, ◌∙◌, arith}
use Rattle.std.specs.List.{list_any}
use mathlib.Core.List.{map-map}
use Rattle.std.proofs.lemmas.Bool.{cond-true, cond-false, eqb-true, eq-eqb, ne_eqb}
use Rattle.std.proofs.lemmas.Bool.Decides.{nat_tests}
use Rattle.std.proofs.lemmas.List.{get_or-set_same, get_or-set_other, get_or-map, map-id, map-set, set-set, set-get_or}
use Rattle.std.proofs.lemmas.List.Elements.{All-map, All-filter, filter_passes}
use Rattle.std.proofs.lemmas.List.Folds.{map_fixed, list_any_more}
use Rattle.plain_store.specs.Stamps.{kth_greatest}
use Rattle.version_chain.specs.declared.version.Version.{Version}
use Rattle.prepare_commit.specs.declared.items.ChainedItem.{ChainedItem}
use Rattle.prepare_commit.specs.Layout.{chain_at, together, item_chains, item_row, committed_of, raised_item, kept_chain, IsVersionOf, IsLaid}
use Rattle.prepare_commit.specs.Remembered.{IsSettled, AreSettledBeside, raised_where, kept_where}
use Rattle.prepare_commit.proofs.ListsOfLists.{filter_all, map_alike, map_set_at}
use Rattle.prepare_commit.proofs.ItemByItem.{length_changed}
use Rattle.prepare_commit.proofs.OwnChains.{laid_changed, laid_rows, chains_rows, own_chain}
use Rattle.prepare_commit.proofs.Remembering.{settled_pair, settled_empty, low_after}

-- each item beside its versions
abbrev pub paired : List ChainedItem → List (List Version) → List (ChainedItem × List Version)
paired items chains = map (λ (i : ChainedItem). (i, chain_at chains i.chain)) items

-- both after a collection that keeps so many committed versions
abbrev pub collected_pair : ℕ → ChainedItem × List Version → ChainedItem × List Version
collected_pair keep p =
    let floor = max p.0.entry.floor (kth_greatest keep (committed_of p.1)) in
    (record { entry = record { key = p.0.entry.key; floor = floor }; chain = p.0.chain }, filter (λ (v : Version). nat_le floor v.prepared.stamp) p.1)

-- once those of some chains are collected
abbrev pub collected_among : List ℕ → ℕ → ChainedItem × List Version → ChainedItem × List Version
collected_among numbers keep p = cond (list_any (λ n. n == p.0.chain) numbers) (collected_pair keep p) p

-- once one chain is collected
abbrev pub collected_where : ℕ → ℕ → ChainedItem × List Version → ChainedItem × List Version
collected_where chain keep p = cond (p.0.chain == chain) (collected_pair keep p) p

-- the items and their versions are reported by the pairs, and tell them
module _ (f : ChainedItem → ChainedItem) (g : ChainedItem → List Version) (lists : List (List Version)) where
  pub parted : (now items : List ChainedItem) → paired now lists ≡ map (λ (i : ChainedItem). (f i, g i)) items → (now ≡ map f items) × (item_chains now lists ≡ map g items)
  parted now items e =
      let first : ChainedItem × List Version → ChainedItem = λ p. p.0 in
      let second : ChainedItem × List Version → List Version = λ p. p.1 in (
        sym (map-map first (λ (i : ChainedItem). (i, chain_at lists i.chain)) now ∙ map-id now) ∙ ap (map first) e ∙ map-map first (λ (i : ChainedItem). (f i, g i)) items,
        sym (map-map second (λ (i : ChainedItem). (i, chain_at lists i.chain)) now) ∙ ap (map second) e ∙ map-map second (λ (i : ChainedItem). (f i, g i)) items,
      )

  pub pair_up : (now items : List ChainedItem) → now ≡ map f items → item_chains now lists ≡ map g items → paired now lists ≡ map (λ (i : ChainedItem). (f i, g i)) items
  pair_up [] [] a b = refl
  pair_up [] (i ∷ items) a b = cc
  pair_up (j ∷ now) [] a b = cc
  pair_up (j ∷ now) (i ∷ items) a b =
      let first : j ≡ f i = cc in
      let second : chain_at lists j.chain ≡ g i = cc in
      let items_are : now ≡ map f items = cc in
      let lists_are : item_chains now lists ≡ map g items = cc in
      let rest = pair_up now items items_are lists_are in
      λ k. (first k, second k) ∷ rest k

pub parted_all : (keep : ℕ) (now items : List ChainedItem) (lists chains : List (List Version)) → paired now lists ≡ map (collected_pair keep) (paired items chains)
    → (now ≡ map (raised_item keep chains) items) × (item_chains now lists ≡ map (kept_chain keep chains) items)
parted_all keep now items lists chains e =
    parted (raised_item keep chains) (kept_chain keep chains) lists now items (e ∙ map-map (collected_pair keep) (λ (i : ChainedItem). (i, chain_at chains i.chain)) items)

where_pairs : (chain keep : ℕ) (items : List ChainedItem) (chains : List (List Version)) → map (λ (i : ChainedItem). (raised_where chain keep chains i, kept_where chain keep chains i)) items ≡ map (collected_where chain keep) (paired items chains)
where_pairs chain keep items chains =
    (λ j. map (λ (i : ChainedItem). swap (i.chain == chain) (collected_pair keep (i, chain_at chains i.chain)) (i, chain_at chains i.chain) j) items)
    ∙ sym (map-map (collected_where chain keep) (λ (i : ChainedItem). (i, chain_at chains i.chain)) items)
  where
    swap : (b : Bool) (p q : ChainedItem × List Version) → ◌≡◌ {A = ChainedItem × List Version} (cond b p.0 q.0, cond b p.1 q.1) (cond b p q)
    swap true p q = refl
    swap false p q = refl

pub pair_where : (chain keep : ℕ) (now items : List ChainedItem) (lists chains : List (List Version)) → now ≡ map (raised_where chain keep chains) items → item_chains now lists ≡ map (kept_where chain keep chains) items
    → paired now lists ≡ map (collected_where chain keep) (paired items chains)
pair_where chain keep now items lists chains a b = pair_up (raised_where chain keep chains) (kept_where chain keep chains) lists now items a b ∙ where_pairs chain keep items chains

pub parted_where : (chain keep : ℕ) (now items : List ChainedItem) (lists chains : List (List Version)) → paired now lists ≡ map (collected_where chain keep) (paired items chains)
    → (now ≡ map (raised_where chain keep chains) items) × (item_chains now lists ≡ map (kept_where chain keep chains) items)
parted_where chain keep now items lists chains e = parted (raised_where chain keep chains) (kept_where chain keep chains) lists now items (e ∙ sym (where_pairs chain keep items chains))

-- ---- those of some chains

-- a second collection changes nothing
collected_again : (keep : ℕ) (p : ChainedItem × List Version) → collected_pair keep (collected_pair keep p) ≡ collected_pair keep p
collected_again keep p =
    let once = collected_pair keep p in
    let low = low_after keep p.0.entry.floor p.1 in
    let same : max once.0.entry.floor (kth_greatest keep (committed_of once.1)) ≡ once.0.entry.floor = omega (arith, low) in
    let stays : Version → Bool = λ v. nat_le once.0.entry.floor v.prepared.stamp in
    let all = filter_all stays once.1 (filter_passes stays p.1) in
    (λ j. (record { entry = record { key = p.0.entry.key; floor = same j }; chain = p.0.chain }, filter (λ (v : Version). nat_le (same j) v.prepared.stamp) once.1))
    ∙ (λ j. (once.0, all j))

pub none_collected : (keep : ℕ) (ps : List (ChainedItem × List Version)) → ps ≡ map (collected_among [] keep) ps
none_collected keep ps = sym (map-id ps)

pub one_collected : (keep : ℕ) (numbers : List ℕ) (nth d : ℕ) → nth < length numbers → (ps : List (ChainedItem × List Version))
    → map (collected_where (get_or numbers nth d) keep) (map (collected_among (take nth numbers) keep) ps) ≡ map (collected_among (take (nth + 1) numbers) keep) ps
one_collected keep numbers nth d within ps = map-map (collected_where (get_or numbers nth d) keep) (collected_among (take nth numbers) keep) ps ∙ (λ j. map (λ p. each p j) ps)
  where
    chain : ℕ
    chain = get_or numbers nth d

    each : (p : ChainedItem × List Version) → collected_where chain keep (collected_among (take nth numbers) keep p) ≡ collected_among (take (nth + 1) numbers) keep p
    each p =
        by (list_any (λ n. n == p.0.chain) (take nth numbers)) (p.0.chain == chain) refl
        ∙ ap (λ b. cond b (collected_pair keep p) p)
        (ap (λ t. list_any (λ n. n == p.0.chain) (take nth numbers) || t) (turned p.0.chain chain)
        ∙ sym (list_any_more (λ n. n == p.0.chain) numbers nth d within))
      where
        turned : (m n : ℕ) → (m == n) ≡ (n == m)
        turned m n = grind (arith, nat_tests)

        by : (b t : Bool) → (p.0.chain == chain) ≡ t → collected_where chain keep (cond b (collected_pair keep p) p) ≡ cond (b || t) (collected_pair keep p) p
        by true true e = rw e (collected_again keep p)
        by true false e = rw e refl
        by false true e = rw e refl
        by false false e = rw e refl

pub all_collected : (keep : ℕ) (numbers : List ℕ) (items : List ChainedItem) (chains : List (List Version)) → AreSettledBeside keep numbers items chains
    → map (collected_among numbers keep) (paired items chains) ≡ map (collected_pair keep) (paired items chains)
all_collected keep numbers items chains settled =
    map_alike (collected_among numbers keep) (collected_pair keep) (paired items chains) (All-map (λ p. collected_among numbers keep p ≡ collected_pair keep p) (λ (i : ChainedItem). (i, chain_at chains i.chain)) items (λ k d within. by (get_or items k d) (list_any (λ n. n == (get_or items k d).chain) numbers) (settled k d within)))
  where
    by : (i : ChainedItem) (b : Bool) → (b ≡ false → IsSettled keep chains i) → ◌≡◌ {A = ChainedItem × List Version} (cond b (collected_pair keep (i, chain_at chains i.chain)) (i, chain_at chains i.chain)) (collected_pair keep (i, chain_at chains i.chain))
    by i true its = refl
    by i false its = sym (settled_pair keep chains i (its refl))

-- ---- one chain

-- which has no version
pub none_there : (keep : ℕ) (items : List ChainedItem) (chains : List (List Version)) (chain : ℕ) → chain_at chains chain ≡ [] → paired items chains ≡ map (collected_where chain keep) (paired items chains)
none_there keep items chains chain empty =
    sym (map_fixed (collected_where chain keep) (paired items chains) (All-map (λ p. collected_where chain keep p ≡ p) (λ (i : ChainedItem). (i, chain_at chains i.chain)) items (λ k d within. by (get_or items k d) ((get_or items k d).chain == chain) refl)))
  where
    by : (i : ChainedItem) (b : Bool) → (i.chain == chain) ≡ b → ◌≡◌ {A = ChainedItem × List Version} (cond b (collected_pair keep (i, chain_at chains i.chain)) (i, chain_at chains i.chain)) (i, chain_at chains i.chain)
    by i true e = settled_pair keep chains i (settled_empty keep chains i (ap (chain_at chains) (eqb-true i.chain chain e) ∙ empty))
    by i false e = refl

-- which is an item's
module _ (keep : ℕ) (items : List ChainedItem) (chains : List (List Version)) (place : ℕ) (i : ChainedItem) (within : place < length items) (is : i ≡ get_or items place i) (laid : IsLaid items chains) (there : i.chain < length chains) where
  abbrev kept : List Version
  kept = kept_chain keep chains i

  abbrev cut_items : List ChainedItem
  cut_items = set items place (raised_item keep chains i)

  abbrev raised : ChainedItem
  raised = raised_item keep chains i

  abbrev was : ChainedItem → ChainedItem × List Version
  was x = (x, chain_at chains x.chain)

  abbrev now : ChainedItem → ChainedItem × List Version
  now x = (x, chain_at (set chains i.chain kept) x.chain)

  apart : (j : ℕ) → j < length items → j ≢ place → (get_or items j i).chain ≢ i.chain
  apart j w other same = other (laid.apart j place i w within (same ∙ ap (λ (x : ChainedItem). x.chain) is))

  pub pair_cut : paired cut_items (set chains i.chain kept) ≡ set (paired items chains) place (collected_pair keep (i, chain_at chains i.chain))
  pair_cut =
      map-set now items place raised
      ∙ ap (λ ps. set ps place (now raised)) (map_set_at now was items place i within (λ j w other k. (get_or items j i, get_or-set_other chains i.chain (get_or items j i).chain kept [] (apart j w other) k)))
      ∙ set-set (map was items) place (now (get_or items place i)) (now raised)
      ∙ (λ k. set (map was items) place (raised, get_or-set_same chains i.chain kept [] there k))

  pub cut_where : paired cut_items (set chains i.chain kept) ≡ map (collected_where i.chain keep) (paired items chains)
  cut_where =
      let turned : ChainedItem → ChainedItem × List Version = λ x. collected_where i.chain keep (was x) in
      let here : turned i ≡ collected_pair keep (was i) = cond-true (i.chain == i.chain) _ _ (eq-eqb i.chain i.chain refl) in
      pair_cut
      ∙ ap (set (map was items) place) (sym here ∙ ap turned is)
      ∙ sym (map_set_at turned was items place i within (λ j w other. cond-false _ _ _ (ne_eqb _ _ (apart j w other))))
      ∙ sym (map-map (collected_where i.chain keep) was items)

  rows : map item_row cut_items ≡ map item_row items
  rows =
      map-set item_row items place (raised_item keep chains i)
      ∙ ap (set (map item_row items) place) (ap item_row is ∙ sym (get_or-map item_row items place i (item_row i) within))
      ∙ set-get_or (map item_row items) place (item_row i)

  pub laid_cut : IsLaid cut_items (set chains i.chain kept)
  laid_cut =
      laid_rows items cut_items rows (set chains i.chain kept) (laid_changed items chains place i kept within is there laid
      (All-filter (λ (v : Version). nat_le (raised_item keep chains i).entry.floor v.prepared.stamp) (IsVersionOf i.entry.key) (chain_at chains i.chain) (own_chain items chains laid place i within is)))

  -- with it go as many versions as its chain loses
  pub long_cut : length (together (item_chains cut_items (set chains i.chain kept))) + length (chain_at chains i.chain) ≡ length (together (item_chains items chains)) + length kept
  long_cut =
      omega (arith, ap (λ (vs : List (List Version)). length (together vs)) (chains_rows items cut_items rows (set chains i.chain kept)), length_changed items chains place i kept within is there laid)

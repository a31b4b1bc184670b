-- For `Cell`, the calls that change it. Which items another collection may still change.
use Rattle.std.proofs.Common.{◌≡◌, ℕ, zero, suc, max, ◌<◌, ◌≤◌, ◌==◌, Bool, true, false, cond, not, ◌&&◌, ◌||◌, nat_le, Option, Some, None, List, [], ◌∷◌, ◌++◌, map, set, filter, length, get_or, count_by, All, inl, inr, refl, sym, ap, subst, ◌∙◌, arith}
use Rattle.std.specs.Prelude.{insert, IsSomeAnd}
use mathlib.Core.Bool.{or-false}
use Rattle.std.proofs.lemmas.Bool.{le-leb, leb-true, and_parts, or_parts, cases_eq, cases_lt}
use Rattle.std.proofs.lemmas.Bool.Decides.{nat_tests}
use Rattle.std.proofs.lemmas.Option.{same_Some}
use Rattle.std.proofs.lemmas.List.{get_or-set_same, get_or-set_other, get_or-map, get_or_default, length-map, map-append}
use Rattle.std.proofs.lemmas.List.Elements.{All-nil, All-weaker, All-filter, filter-append, filter_passes}
use Rattle.plain_store.specs.Stamps.{kth_greatest}
use Rattle.plain_store.proofs.Counting.{count_by-map, count_by-filter, count_by-in}
use Rattle.plain_store.proofs.Greatest.{kth_above, kth_by_count}
use Rattle.stamps.specs.Record.{Record}
use Rattle.version_chain.specs.declared.chains.Insert.{Insert}
use Rattle.version_chain.specs.declared.chains.Insert.TheVariants.{Added, Same, Other, Full}
use Rattle.version_chain.specs.declared.version.Version.{Version}
use Rattle.version_chain.specs.Chain.{IsInserted, is_open_at, without_open}
use Rattle.prepare_commit.specs.declared.items.ChainedItem.{ChainedItem}
use Rattle.prepare_commit.specs.Layout.{Chained, chain_at, item_chains, committed_of, raised_item, kept_chain, InsertGives, IsLaid}
use Rattle.prepare_commit.specs.Remembered.{IsSettled, is_changed, AreSettled, IsRemembered, AreNotedWhere, Remembers, StayNoted, in_either}
use Rattle.prepare_commit.proofs.ListsOfLists.{at_each, filter_all, filter_alike, filter-filter, All-insert}
use Rattle.prepare_commit.proofs.OwnChains.{all_inserted}

-- ---- what a settled item is

pub settled_pair : (keep : ℕ) (chains : List (List Version)) (i : ChainedItem) → IsSettled keep chains i → ◌≡◌ {A = ChainedItem × List Version} (raised_item keep chains i, kept_chain keep chains i) (i, chain_at chains i.chain)
settled_pair keep chains i settled =
    let same : max i.entry.floor (kth_greatest keep (committed_of (chain_at chains i.chain))) ≡ i.entry.floor = omega (arith, settled.raised) in
    let all = filter_all (λ (v : Version). nat_le i.entry.floor v.prepared.stamp) (chain_at chains i.chain) (λ k d w. le-leb _ _ (settled.above k d w)) in
    (λ j. (record { entry = record { key = i.entry.key; floor = same j }; chain = i.chain }, filter (λ (v : Version). nat_le (same j) v.prepared.stamp) (chain_at chains i.chain)))
    ∙ (λ j. (i, all j))

-- a collection that keeps more raises no floor further
fewer_lower : (fewer more : ℕ) (stamps : List ℕ) → fewer ≤ more → kth_greatest more stamps ≤ kth_greatest fewer stamps
fewer_lower fewer more stamps le =
    elim (cases_lt 0 (kth_greatest more stamps)) [
      | inl some ↦
          let a = kth_by_count more (kth_greatest more stamps) stamps some in
          let b = kth_by_count fewer (kth_greatest more stamps) stamps some in
          grind (arith, nat_tests)
      | inr none ↦ omega arith
    ]

-- what one collection left, one that keeps as many or more leaves as well
pub remembered : (last : Option ℕ) (keep : ℕ) (changed : List Bool) (items : List ChainedItem) (chains : List (List Version)) → IsSomeAnd last (λ number. number ≤ keep)
    → Remembers last changed items chains → AreSettled keep changed items chains
remembered None keep changed items chains le remembers = absurd le
remembered (Some number) keep changed items chains le remembers = λ k d within free.
    let i = get_or items k d in
    let settled = remembers number refl k d within free in
    let lower = fewer_lower number keep (committed_of (chain_at chains i.chain)) le in
    record { raised = omega (arith, lower, settled.raised); above = settled.above }

-- its versions alone count
settled_by : (keep : ℕ) (new : List (List Version)) (i : ChainedItem) (vs : List Version) → chain_at new i.chain ≡ vs → kth_greatest keep (committed_of vs) ≤ i.entry.floor → All (λ (v : Version). i.entry.floor ≤ v.prepared.stamp) vs → IsSettled keep new i
settled_by keep new i vs same low all = record {
  raised = subst (λ (us : List Version). kth_greatest keep (committed_of us) ≤ i.entry.floor) (sym same) low;
  above = subst (λ (us : List Version). All (λ (v : Version). i.entry.floor ≤ v.prepared.stamp) us) (sym same) all;
}

settled_same : (keep : ℕ) (chains new : List (List Version)) (i : ChainedItem) → chain_at new i.chain ≡ chain_at chains i.chain → IsSettled keep chains i → IsSettled keep new i
settled_same keep chains new i same settled = settled_by keep new i (chain_at chains i.chain) same settled.raised settled.above

-- an item without versions
pub settled_empty : (keep : ℕ) (chains : List (List Version)) (i : ChainedItem) → chain_at chains i.chain ≡ [] → IsSettled keep chains i
settled_empty keep chains i none = settled_by keep chains i [] none (omega arith) (All-nil (λ (v : Version). i.entry.floor ≤ v.prepared.stamp))

-- ---- chains that are noted in one of two lists

pub either_at : (xs ys : List Bool) (n : ℕ) → get_or (in_either xs ys) n false ≡ (get_or xs n false || get_or ys n false)
either_at [] ys zero = refl
either_at [] ys (suc n) = refl
either_at (x ∷ xs) [] zero = sym (or-false x)
either_at (x ∷ xs) [] (suc n) = sym (or-false (get_or xs n false))
either_at (x ∷ xs) (y ∷ ys) zero = refl
either_at (x ∷ xs) (y ∷ ys) (suc n) = either_at xs ys n

-- it is not where it is in neither
pub in_neither : (xs ys : List Bool) (n : ℕ) → get_or xs n false ≡ false → get_or ys n false ≡ false → get_or (in_either xs ys) n false ≡ false
in_neither xs ys n first second = either_at xs ys n ∙ ap (λ b. b || get_or ys n false) first ∙ second

pub neither : (xs ys : List Bool) (n : ℕ) → get_or (in_either xs ys) n false ≡ false → (get_or xs n false ≡ false) × (get_or ys n false ≡ false)
neither xs ys n free = or_parts (get_or xs n false) (get_or ys n false) (sym (either_at xs ys n) ∙ free)

pub either_noted : (left old new : List Bool) (chains after : List (List Version)) → AreNotedWhere old new chains after → AreNotedWhere (in_either left old) (in_either left new) chains after
either_noted left old new chains after noted n free =
    let parts = neither left new n free in
    let both = noted n parts.1 in
    (in_neither left old n parts.0 both.0, both.1)

-- one list that has what both have
pub gathered : (left changed all : List Bool) → ((chain : ℕ) → get_or all chain false ≡ (get_or left chain false || get_or changed chain false)) → StayNoted (in_either left changed) all
gathered left changed all both chain free =
    let parts = or_parts (get_or left chain false) (get_or changed chain false) (sym (both chain) ∙ free) in
    in_neither left changed chain parts.0 parts.1

-- where more is noted, no more is claimed
pub noted_more : (keep : ℕ) (old new : List Bool) (items : List ChainedItem) (chains : List (List Version)) → StayNoted old new → AreSettled keep old items chains → AreSettled keep new items chains
noted_more keep old new items chains more was k d within free = was k d within (more (get_or items k d).chain free)

-- ---- a PREPARE

committed_append : (xs ys : List Version) → committed_of (xs ++ ys) ≡ committed_of xs ++ committed_of ys
committed_append xs ys =
    let committed : Version → Bool = λ v. v.committed in
    let stamp : Version → ℕ = λ v. v.prepared.stamp in
    ap (map stamp) (filter-append committed xs ys) ∙ map-append stamp (filter committed xs) (filter committed ys)

-- an open version that is not below the floor
settled_inserted : (keep : ℕ) (chains : List (List Version)) (new : List Version) (i : ChainedItem) (v : Version) → v.committed ≡ false → i.entry.floor ≤ v.prepared.stamp → IsInserted (chain_at chains i.chain) new v → IsSettled keep chains i
    → (after : List (List Version)) → chain_at after i.chain ≡ new → IsSettled keep after i
settled_inserted keep chains new i v none above h settled after is =
    let same : committed_of new ≡ committed_of (chain_at chains i.chain) =
    ap committed_of h.new_is ∙ committed_append h.above (v ∷ h.below)
    ∙ ap (λ b. committed_of h.above ++ map (λ (u : Version). u.prepared.stamp) (cond b (v ∷ filter (λ (u : Version). u.committed) h.below) (filter (λ (u : Version). u.committed) h.below))) none
    ∙ sym (committed_append h.above h.below) ∙ ap committed_of (sym h.old_is)
    in
    settled_by keep after i new is (subst (λ ns. kth_greatest keep ns ≤ i.entry.floor) (sym same) settled.raised)
    (all_inserted (λ (u : Version). i.entry.floor ≤ u.prepared.stamp) (chain_at chains i.chain) new v h above settled.above)

module _ (keep : ℕ) (changed : List Bool) (items : List ChainedItem) (held : Chained) (laid : IsLaid items held.chains) (few : length items ≤ length held.chains) (was : AreSettled keep changed items held.chains) (v : Record) where
  abbrev pub open_version : Version
  open_version = record { prepared = v; committed = false }

  -- of an item that has an entry
  pub known_settled : (new : Chained) (place : ℕ) (i : ChainedItem) → place < length items → i ≡ get_or items place i → i.entry.floor ≤ v.stamp → (r : Insert) → InsertGives r held new i.chain v → AreSettled keep changed items new.chains
  known_settled new place i within is high Same h = subst (λ (x : Chained). AreSettled keep changed items x.chains) (sym h.1) was
  known_settled new place i within is high Other h = subst (λ (x : Chained). AreSettled keep changed items x.chains) (sym h.3) was
  known_settled new place i within is high Full h = subst (λ (x : Chained). AreSettled keep changed items x.chains) (sym h.2) was
  known_settled new place i within is high Added h = λ k d w free.
      let j = get_or items k d in
      let lists : new.chains ≡ set held.chains i.chain h.2.0 = ap (λ (x : Chained). x.chains) h.2.2 in
      elim (cases_eq j.chain i.chain) [
        | inl same ↦
            let at : k ≡ place = laid.apart k place d w within (same ∙ ap (λ (x : ChainedItem). x.chain) (is ∙ get_or_default items place i d within)) in
            let it : i ≡ j = is ∙ get_or_default items place i d within ∙ ap (λ n. get_or items n d) (sym at) in
            let there : i.chain < length held.chains = (let given = laid.given place i within in omega (arith, given, ap (λ (x : ChainedItem). x.chain) is, few)) in
            subst (IsSettled keep new.chains) it
            (settled_inserted keep held.chains h.2.0 i open_version refl high h.2.1 (subst (IsSettled keep held.chains) (sym it) (was k d w free)) new.chains
            (ap (λ (ls : List (List Version)). chain_at ls i.chain) lists ∙ get_or-set_same held.chains i.chain h.2.0 [] there))
        | inr other ↦
            settled_same keep held.chains new.chains j
            (ap (λ (ls : List (List Version)). chain_at ls j.chain) lists ∙ get_or-set_other held.chains i.chain j.chain h.2.0 [] other) (was k d w free)
      ]

  -- of one that has none
  pub first_settled : (new : List (List Version)) (place : ℕ) (key : List ℕ) → length items < length held.chains → new ≡ set held.chains (length items) (open_version ∷ [])
      → AreSettled keep changed (insert items place (record { entry = record { key = key; floor = 0 }; chain = length items })) new
  first_settled new place key left lists =
      let first : ChainedItem = record { entry = record { key = key; floor = 0 }; chain = length items } in
      let empty : chain_at held.chains (length items) ≡ [] = laid.unused (length items) (omega arith) in
      All-insert (λ (i : ChainedItem). is_changed changed i ≡ false → IsSettled keep new i) items place first
      (λ k d w free.
      let j = get_or items k d in
      settled_same keep held.chains new j
      (ap (λ (ls : List (List Version)). chain_at ls j.chain) lists ∙ get_or-set_other held.chains (length items) j.chain (open_version ∷ []) [] (λ same. (let given = laid.given k d w in absurd (omega (arith, given, same))))) (was k d w free))
      (λ free.
      settled_inserted keep held.chains (open_version ∷ []) first open_version refl (omega arith) (record { above = []; below = []; old_is = empty; new_is = refl }) (settled_empty keep held.chains first empty) new
      (ap (λ (ls : List (List Version)). chain_at ls (length items)) lists ∙ get_or-set_same held.chains (length items) (open_version ∷ []) [] left))

-- ---- a DISCARD

committed_gone : (stamp : ℕ) (vs : List Version) → committed_of (without_open stamp vs) ≡ committed_of vs
committed_gone stamp vs =
    let committed : Version → Bool = λ v. v.committed in
    ap (map (λ (v : Version). v.prepared.stamp)) (filter-filter committed (λ v. not (is_open_at stamp v)) vs
    ∙ filter_alike (λ v. not (is_open_at stamp v) && v.committed) committed vs (λ k d w. stays (get_or vs k d).committed ((get_or vs k d).prepared.stamp == stamp)))
  where
    stays : (b t : Bool) → (not (t && not b) && b) ≡ b
    stays b t = grind arith

pub gone_settled : (keep stamp : ℕ) (changed : List Bool) (items : List ChainedItem) (chains new : List (List Version)) → new ≡ map (without_open stamp) chains → AreSettled keep changed items chains → AreSettled keep changed items new
gone_settled keep stamp changed items chains new gone was k d within free =
    let i = get_or items k d in
    let vs = chain_at chains i.chain in
    let settled = was k d within free in
    settled_by keep new i (without_open stamp vs) (ap (λ (ls : List (List Version)). chain_at ls i.chain) gone ∙ at_each (without_open stamp) refl chains i.chain)
    (subst (λ ns. kth_greatest keep ns ≤ i.entry.floor) (sym (committed_gone stamp vs)) settled.raised)
    (All-filter (λ (v : Version). not (is_open_at stamp v)) (λ (v : Version). i.entry.floor ≤ v.prepared.stamp) vs settled.above)

-- ---- a COMMIT

pub settled_noted : (keep : ℕ) (old new : List Bool) (items : List ChainedItem) (chains after : List (List Version)) → AreNotedWhere old new chains after → AreSettled keep old items chains → AreSettled keep new items after
settled_noted keep old new items chains after noted was k d within free =
    let i = get_or items k d in
    let both = noted i.chain free in
    settled_same keep chains after i both.1 (was k d within both.0)

-- ---- a collection

count_kept : (floor x : ℕ) (vs : List Version) → floor < x → count_by (nat_le x) (committed_of (filter (λ (v : Version). nat_le floor v.prepared.stamp) vs)) ≡ count_by (nat_le x) (committed_of vs)
count_kept floor x vs above =
    let committed : Version → Bool = λ v. v.committed in
    let stamp : Version → ℕ = λ v. v.prepared.stamp in
    let high : Version → Bool = λ v. nat_le x v.prepared.stamp in
    let stays : Version → Bool = λ v. nat_le floor v.prepared.stamp in
    count_by-map (nat_le x) stamp (filter committed (filter stays vs))
    ∙ count_by-filter high committed (filter stays vs)
    ∙ count_by-filter (λ v. v.committed && high v) stays vs
    ∙ count_by-in _ _ vs (λ v i. implied (stays v) (v.committed && high v) (λ e. le-leb _ _ (omega (arith, above, leb-true x v.prepared.stamp (and_parts v.committed (high v) e).1))))
    ∙ sym (count_by-filter high committed vs)
    ∙ sym (count_by-map (nat_le x) stamp (filter committed vs))
  where
    implied : (a b : Bool) → (b ≡ true → a ≡ true) → (a && b) ≡ b
    implied a b h = grind arith

-- what a collection leaves has no more committed versions above the floor than it keeps
pub low_after : (keep start : ℕ) (vs : List Version) → (let floor = max start (kth_greatest keep (committed_of vs)) in kth_greatest keep (committed_of (filter (λ (v : Version). nat_le floor v.prepared.stamp) vs)) ≤ floor)
low_after keep start vs =
    let floor : ℕ = max start (kth_greatest keep (committed_of vs)) in
    let same = kth_above floor keep (committed_of (filter (λ (v : Version). nat_le floor v.prepared.stamp) vs)) (committed_of vs) (λ x above. count_kept floor x vs above) in
    omega (arith, same)

module _ (keep : ℕ) (chains new : List (List Version)) (items : List ChainedItem) (kept : item_chains (map (raised_item keep chains) items) new ≡ map (kept_chain keep chains) items) (k : ℕ) (d : ChainedItem) (within : k < length items) where
  -- an item, and its versions, after a collection
  pub collected_item : get_or (map (raised_item keep chains) items) k d ≡ raised_item keep chains (get_or items k d)
  collected_item = get_or-map (raised_item keep chains) items k d d within

  pub collected_chain : chain_at new (get_or items k d).chain ≡ kept_chain keep chains (get_or items k d)
  collected_chain =
      sym (get_or-map (λ (x : ChainedItem). chain_at new x.chain) (map (raised_item keep chains) items) k d [] (omega (arith, within, length-map items (raised_item keep chains))) ∙ ap (λ (x : ChainedItem). chain_at new x.chain) collected_item)
      ∙ ap (λ (vs : List (List Version)). get_or vs k []) kept
      ∙ get_or-map (kept_chain keep chains) items k d [] within

  -- that was settled
  pub stays_item : IsSettled keep chains (get_or items k d) → get_or (map (raised_item keep chains) items) k d ≡ get_or items k d
  stays_item settled = collected_item ∙ ap (λ (p : ChainedItem × List Version). p.0) (settled_pair keep chains (get_or items k d) settled)

  pub stays_chain : IsSettled keep chains (get_or items k d) → chain_at new (get_or items k d).chain ≡ chain_at chains (get_or items k d).chain
  stays_chain settled = collected_chain ∙ ap (λ (p : ChainedItem × List Version). p.1) (settled_pair keep chains (get_or items k d) settled)

-- all items are settled: their floors are raised, and their other versions dropped
pub all_settled : (keep : ℕ) (chains new : List (List Version)) (items : List ChainedItem) → item_chains (map (raised_item keep chains) items) new ≡ map (kept_chain keep chains) items → (changed : List Bool) → AreSettled keep changed (map (raised_item keep chains) items) new
all_settled keep chains new items kept changed k d within free =
    let less : k < length items = omega (arith, within, length-map items (raised_item keep chains)) in
    let i = get_or items k d in
    let vs = chain_at chains i.chain in
    let floor : ℕ = (raised_item keep chains i).entry.floor in
    subst (IsSettled keep new) (sym (collected_item keep chains new items kept k d less))
    (settled_by keep new (raised_item keep chains i) (kept_chain keep chains i) (collected_chain keep chains new items kept k d less) (low_after keep i.entry.floor vs)
    (All-weaker (λ (v : Version). nat_le floor v.prepared.stamp ≡ true) (λ (v : Version). floor ≤ v.prepared.stamp) (λ v e. leb-true _ _ e) (kept_chain keep chains i) (filter_passes (λ (v : Version). nat_le floor v.prepared.stamp) vs)))

-- what one collection left, another that keeps as many or more leaves to it
pub still_settled : (fewer keep : ℕ) (changed : List Bool) (items : List ChainedItem) (chains new : List (List Version)) → fewer ≤ keep → AreSettled fewer changed items chains
    → item_chains (map (raised_item keep chains) items) new ≡ map (kept_chain keep chains) items → AreSettled fewer changed (map (raised_item keep chains) items) new
still_settled fewer keep changed items chains new le was kept k d within free =
    let less : k < length items = omega (arith, within, length-map items (raised_item keep chains)) in
    let i = get_or items k d in
    let unnoted = sym (ap (is_changed changed) (collected_item keep chains new items kept k d less)) ∙ free in
    let more = remembered (Some fewer) keep changed items chains le (λ n e. subst (λ m. AreSettled m changed items chains) (same_Some fewer n e) was) k d less unnoted in
    subst (IsSettled fewer new) (sym (stays_item keep chains new items kept k d less more))
    (settled_same fewer chains new i (stays_chain keep chains new items kept k d less more) (was k d less unnoted))

-- and so after it what is remembered holds
pub collection_remembered : (keep : ℕ) (last now : Option ℕ) (changed noted : List Bool) (items : List ChainedItem) (chains new : List (List Version)) → Remembers last changed items chains → IsRemembered keep last changed now noted
    → item_chains (map (raised_item keep chains) items) new ≡ map (kept_chain keep chains) items → Remembers now noted (map (raised_item keep chains) items) new
collection_remembered keep last now changed noted items chains new was (inl anew) kept number is =
    subst (λ n. AreSettled n noted (map (raised_item keep chains) items) new) (same_Some keep number (sym anew.0 ∙ is)) (all_settled keep chains new items kept noted)
collection_remembered keep last now changed noted items chains new was (inr left) kept number is =
    let before : last ≡ Some number = sym left.1 ∙ is in
    let less : number < keep = subst (λ o. IsSomeAnd o (λ n. n < keep)) before left.0 in
    noted_more number changed noted (map (raised_item keep chains) items) new left.2
    (still_settled number keep changed items chains new (omega (arith, less)) (was number before) kept)

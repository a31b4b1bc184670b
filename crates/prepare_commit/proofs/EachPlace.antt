-- For `Cell::commit_counted`. The versions of a stamp that are committed one after another, by their places in the list.
use Rattle.std.proofs.Common.{◌≡◌, ◌≢◌, inl, inr, ℕ, ◌+◌, ◌^◌, ◌<◌, ◌≤◌, ◌==◌, ◌&&◌, ◌||◌, Bool, true, false, cond, List, [], ◌∷◌, ◌++◌, map, set, take, length, get_or, sum_by, All, Option, Some, None, is_some, bytes_eq, refl, sym, ap, subst, ◌∙◌, arith}
use mathlib.Core.Bool.{or-false, or_self_left}
use mathlib.Core.List.{map-map}
use Rattle.std.specs.List.{list_any, flat_map}
use Rattle.std.proofs.Math.ListN.{get_or-eq_default}
use Rattle.std.proofs.lemmas.Bool.{eq-eqb, ne_eqb, cases_lt, or_right, or_parts}
use Rattle.std.proofs.lemmas.Bool.Decides.{nat_tests}
use Rattle.std.proofs.lemmas.List.{take_more}
use Rattle.std.proofs.lemmas.List.Concat.{flat_map-append}
use Rattle.std.proofs.lemmas.List.Folds.{list_any-append, list_any_more}
use Rattle.plain_store.specs.Log.{is_version}
use Rattle.plain_store.specs.Words.{Key}
use Rattle.secondary_index.specs.Index.{Index, with_tag}
use Rattle.stamps.specs.Record.{Record}
use Rattle.version_arena.specs.Arena.{entry, beside, next_beside}
use Rattle.version_chain.specs.Node.{Node}
use Rattle.version_chain.specs.declared.version.Version.{Version}
use Rattle.version_chain.specs.declared.stamp_list.Kept.{Kept}
use Rattle.version_chain.specs.Heads.{Heads}
use Rattle.version_chain.specs.Chain.{Cells, HoldsChains, OtherChainsKept, chain_versions, follow, at_stamp}
use Rattle.version_chain.specs.Listed.{is_at_stamp, is_named, chain_of, chain_in, with_latest, Lists, IsSweptAt, NoneMove}
use Rattle.version_chain.specs.Sharing.{ChangesOwn}
use Rattle.version_chain.proofs.Changing.{own_next}
use Rattle.version_chain.proofs.Listing.{lists_same, swept_at_same}
use Rattle.version_chain.proofs.MarkingListed.{marks}
use Rattle.version_chain.proofs.Places.{places, place_stamp, place_named}
use Rattle.version_chain.proofs.Replacing.{same_or_not}
use Rattle.prepare_commit.specs.declared.items.ChainedItem.{ChainedItem}
use Rattle.prepare_commit.specs.Calls.{KnowsHeld}
use Rattle.prepare_commit.specs.Content.{marked_at, has_version_of, KnowsItems, IsMoved, IsLatest}
use Rattle.prepare_commit.specs.Layout.{held_in, chain_at, chain_lists, together, item_chains, entries_of, IsVersionOf, HaveAll}
use Rattle.prepare_commit.proofs.AllChains.{ItsItem, item_of}
use Rattle.prepare_commit.proofs.Chaining.{chain_is, chains_long}
use Rattle.prepare_commit.proofs.ItemByItem.{marked_own, key_at}
use Rattle.prepare_commit.proofs.ListsOfLists.{at_each, sum_by-map}
use Rattle.prepare_commit.proofs.Moving.{moved_item, knows_set}
use Rattle.prepare_commit.proofs.Noting.{set_at}
use Rattle.prepare_commit.specs.Remembered.{AreNotedWhere}
use Rattle.prepare_commit.proofs.OwnChains.{laid_each, latest_of, own_chain, entry_is}

-- the version in a cell
abbrev pub version_in : Option (Node × Option ℕ) → List Version
version_in None = []
version_in (Some cell) = cell.0.version ∷ []

-- the chain is that of one of the first places
abbrev pub is_done : Cells → List Kept → ℕ → ℕ → Bool
is_done start kept j chain = list_any (λ (k : Kept). chain_in start k.slot == chain) (take j kept)

-- the versions of the first places
abbrev pub seen : Cells → List Kept → ℕ → List Version
seen start kept j = flat_map (λ (k : Kept). version_in (entry start k.slot)) (take j kept)

-- a chain, once it was marked
abbrev pub once_done : ℕ → Bool → List Version → List Version
once_done stamp done versions = cond done (map (marked_at stamp) versions) versions

-- the items' versions, once all are marked
abbrev pub marked_together : ℕ → List ChainedItem → List (List Version) → List Version
marked_together stamp items chains = together (item_chains items (map (map (marked_at stamp)) chains))

-- what is known where the first place is committed
pub record Begins (block : Cells) (chains : Heads) (stamp : ℕ) (index : Index) (changed since : List Bool) : Type 0 where
  pub stands : HoldsChains block chains
  pub list : Lists block chains
  pub swept : IsSweptAt stamp chains.tenant block chains.kept
  pub few : chains.used < 2 ^ 32
  pub long : length changed ≡ length chains.heads
  pub as_long : length since ≡ length chains.heads
  pub known : KnowsHeld index (held_in block chains)

-- so many places are committed
pub record SoFar (start now : Cells) (chains heads : Heads) (stamp j : ℕ) (old index : Index) (count before visits : ℕ) : Type 0 where
  pub stands : HoldsChains now heads
  pub rest : heads ≡ with_latest chains heads.latest
  pub own : ChangesOwn start now chains heads
  pub listed : Lists now chains
  pub swept : IsSweptAt stamp chains.tenant now chains.kept
  pub stays : NoneMove start now chains.tenant
  pub places_stay : (slot : ℕ) → chain_in now slot ≡ chain_in start slot
  pub chained : (chain : ℕ) → chain < length chains.heads → chain_versions now chains chain ≡ once_done stamp (is_done start (places chains stamp) j chain) (chain_versions start chains chain)
  pub within : j ≤ length (places chains stamp)
  pub counted : count ≡ j
  pub visited : visits ≡ before + j
  pub room : index.room ≡ old.room
  pub keys : (items : List ChainedItem) → HaveAll items (held_in start chains) → KnowsItems old.tags (entries_of items) → KnowsItems index.tags (entries_of items)
  pub moved : (items : List ChainedItem) → HaveAll items (held_in start chains) → IsMoved stamp (seen start (places chains stamp) j) (marked_together stamp items (chain_lists start chains)) old.tags index.tags

-- ---- one place more

pub marked_once : (stamp : ℕ) (done : Bool) (versions : List Version) → map (marked_at stamp) (once_done stamp done versions) ≡ map (marked_at stamp) versions
marked_once stamp true versions =
    map-map (marked_at stamp) (marked_at stamp) versions
    ∙ (λ i. map (λ (v : Version). record { prepared = v.prepared; committed = or_self_left (v.prepared.stamp == stamp) v.committed i }) versions)
marked_once stamp false versions = refl

module _ (start : Cells) (kept : List Kept) (j : ℕ) (k : Kept) (within : j < length kept) (is : k ≡ get_or kept j k) where
  done_more : (chain : ℕ) → is_done start kept (j + 1) chain ≡ (is_done start kept j chain || (chain_in start k.slot == chain))
  done_more chain = list_any_more (λ (x : Kept). chain_in start x.slot == chain) kept j k within ∙ ap (λ (x : Kept). is_done start kept j chain || (chain_in start x.slot == chain)) (sym is)

  pub done_this : is_done start kept (j + 1) (chain_in start k.slot) ≡ true
  done_this = done_more (chain_in start k.slot) ∙ or_right _ _ (eq-eqb (chain_in start k.slot) (chain_in start k.slot) refl)

  pub done_other : (chain : ℕ) → chain ≢ chain_in start k.slot → is_done start kept (j + 1) chain ≡ is_done start kept j chain
  done_other chain other = done_more chain ∙ ap (λ b. is_done start kept j chain || b) (ne_eqb (chain_in start k.slot) chain (λ same. other (sym same))) ∙ or-false (is_done start kept j chain)

  pub seen_more : (stamp : ℕ) (v : Version) → version_in (entry start k.slot) ≡ v ∷ [] → (key : Key) → has_version_of stamp (seen start kept (j + 1)) key ≡ (has_version_of stamp (seen start kept j) key || (bytes_eq v.prepared.key key && (v.prepared.stamp == stamp)))
  seen_more stamp v here key =
      let of_place : Kept → List Version = λ x. version_in (entry start x.slot) in
      ap (λ ks. has_version_of stamp (flat_map of_place ks) key) (take_more kept j k within ∙ ap (λ (x : Kept). take j kept ++ x ∷ []) (sym is))
      ∙ ap (λ vs. has_version_of stamp vs key) (flat_map-append of_place (take j kept) (k ∷ []) ∙ (λ i. seen start kept j ++ (here i ++ [])))
      ∙ list_any-append (λ (x : Version). is_version key stamp x.prepared) (seen start kept j) (v ∷ [])
      ∙ ap (λ b. has_version_of stamp (seen start kept j) key || b) (or-false (is_version key stamp v.prepared))

-- ---- what a place names

-- the version that a place named at the start
pub record Named (start : Cells) (chains : Heads) (stamp : ℕ) (kept : Kept) : Type 0 where
  pub version : Version
  pub here : version_in (entry start kept.slot) ≡ version ∷ []
  pub stamp_is : version.prepared.stamp ≡ stamp
  pub known : chain_in start kept.slot < length chains.heads
  pub found : at_stamp (chain_versions start chains (chain_in start kept.slot)) stamp ≡ Some version.prepared

pub named_at : (start : Cells) (chains : Heads) (stamp : ℕ) (kept : Kept) → HoldsChains start chains → kept.stamp ≡ stamp → is_named chains.tenant start kept ≡ true → Named start chains stamp kept
named_at start chains stamp kept stands same named = by (entry start kept.slot) refl
  where
    by : (e : Option (Node × Option ℕ)) → entry start kept.slot ≡ e → Named start chains stamp kept
    by None e = absurd (let none : false ≡ true = ap (is_at_stamp chains.tenant kept.stamp) (sym e) ∙ named in cc)
    by (Some cell) e =
        let read : entry start kept.slot ≡ Some (cell.0, next_beside start kept.slot) = e ∙ ap (λ n. Some (cell.0, n)) (sym (ap beside e)) in
        let at = marks start chains kept cell.0 stands read named in
        let number : chain_in start kept.slot ≡ cell.0.chain = ap chain_of e in
        record {
          version = cell.0.version;
          here = ap version_in e;
          stamp_is = at.stamp ∙ same;
          known = subst (λ n. n < length chains.heads) (sym number) at.known;
          found = ap (λ n. at_stamp (chain_versions start chains n) stamp) number ∙ ap (λ s. at_stamp (chain_versions start chains cell.0.chain) s) (sym same) ∙ at.found;
        }

-- all versions are in the chains
pub used_is : (cells : Cells) (chains : Heads) → HoldsChains cells chains → (held_in cells chains).used ≡ sum_by (λ (vs : List Version). length vs) (chain_lists cells chains)
used_is cells chains stands = stands.counted ∙ sym (sum_by-map length (follow cells (length cells)) chains.heads)

not_empty : (versions : List Version) (stamp : ℕ) (r : Record) → at_stamp versions stamp ≡ Some r → 0 < length versions
not_empty [] stamp r found = absurd (let e : None ≡ Some r = found in cc)
not_empty (v ∷ rest) stamp r found = omega arith

-- the item of a chain that a place names
pub record Owner (start : Cells) (chains : Heads) (chain : ℕ) (items : List ChainedItem) : Type 0 where
  pub item : ItsItem items chain
  pub own : All (IsVersionOf item.i.entry.key) (chain_versions start chains chain)

pub owner_of : (start : Cells) (chains : Heads) (chain stamp : ℕ) (r : Record) (items : List ChainedItem) → HoldsChains start chains → chain < length chains.heads → at_stamp (chain_versions start chains chain) stamp ≡ Some r → HaveAll items (held_in start chains) → Owner start chains chain items
owner_of start chains chain stamp r items stands known found have =
    let is = chain_is start chains chain known in
    let more = not_empty (chain_versions start chains chain) stamp r found in
    let item = item_of items (held_in start chains) have (used_is start chains stands) chain (let same = ap length is in omega arith) in
    let own = own_chain items (chain_lists start chains) have.laid item.k item.i item.within item.is in
    record { item = item; own = subst (All (IsVersionOf item.i.entry.key)) (ap (chain_at (chain_lists start chains)) item.chain_is ∙ is) own }

own_done : (stamp : ℕ) (key : Key) (done : Bool) (versions : List Version) → All (IsVersionOf key) versions → All (IsVersionOf key) (once_done stamp done versions)
own_done stamp key true versions own = marked_own stamp key versions own
own_done stamp key false versions own = own

-- ---- one place more

module _ (start now : Cells) (chains heads : Heads) (stamp j : ℕ) (old index : Index) (count before visits : ℕ) (kept : Kept) (stands : HoldsChains start chains) (within : j < length (places chains stamp)) (is : kept ≡ get_or (places chains stamp) j kept)
    (was : SoFar start now chains heads stamp j old index count before visits) where
  pub named_start : Named start chains stamp kept
  named_start =
      let same = place_stamp start chains stamp j kept within is in
      named_at start chains stamp kept stands same (sym (was.stays kept.slot kept.stamp) ∙ place_named now chains stamp j kept within is was.swept)

  -- the chain of the place, so far
  pub so_far : chain_versions now chains (chain_in now kept.slot) ≡ once_done stamp (is_done start (places chains stamp) j (chain_in start kept.slot)) (chain_versions start chains (chain_in start kept.slot))
  so_far = ap (chain_versions now chains) (was.places_stay kept.slot) ∙ was.chained (chain_in start kept.slot) named_start.known

  pub own_so_far : (key : Key) → All (IsVersionOf key) (chain_versions start chains (chain_in start kept.slot)) → All (IsVersionOf key) (chain_versions now chains (chain_in now kept.slot))
  own_so_far key own = subst (All (IsVersionOf key)) (sym so_far) (own_done stamp key (is_done start (places chains stamp) j (chain_in start kept.slot)) (chain_versions start chains (chain_in start kept.slot)) own)

  -- the same facts of chains that differ in their latest versions alone
  abbrev pub Facts : Cells → Index → Heads → Heads → Type 0
  Facts next next_index h k =
      NoneMove now next h.tenant × OtherChainsKept now h next k (chain_in now kept.slot)
      × (chain_versions next k (chain_in now kept.slot) ≡ map (marked_at kept.stamp) (chain_versions now h (chain_in now kept.slot)))
      × ((key : Key) → All (IsVersionOf key) (chain_versions now h (chain_in now kept.slot)) → (latest : Version) × IsLatest key (chain_versions next k (chain_in now kept.slot)) (Some latest) × (next_index.tags ≡ with_tag index.tags key latest.prepared.tag))

  module _ (next : Cells) (after : Heads) (next_index : Index) (stands_next : HoldsChains next after) (rest_next : after ≡ with_latest chains after.latest) (told : Facts next next_index heads after) (places_stay : (slot : ℕ) → chain_in next slot ≡ chain_in now slot)
      (own : ChangesOwn now next heads after) (room : next_index.room ≡ index.room) where
    facts : Facts next next_index chains chains
    facts = subst (λ (k : Heads). Facts next next_index chains k) rest_next (subst (λ (h : Heads). Facts next next_index h after) was.rest told)

    marked_now : chain_versions next chains (chain_in now kept.slot) ≡ map (marked_at stamp) (chain_versions start chains (chain_in start kept.slot))
    marked_now =
        facts.2 ∙ ap (λ s. map (marked_at s) (chain_versions now chains (chain_in now kept.slot))) (place_stamp start chains stamp j kept within is)
        ∙ ap (map (marked_at stamp)) so_far ∙ marked_once stamp (is_done start (places chains stamp) j (chain_in start kept.slot)) (chain_versions start chains (chain_in start kept.slot))

    chained_next : (chain : ℕ) → chain < length chains.heads → chain_versions next chains chain ≡ once_done stamp (is_done start (places chains stamp) (j + 1) chain) (chain_versions start chains chain)
    chained_next chain known = elim (same_or_not chain (chain_in start kept.slot)) [
      | inl same ↦
          ap (chain_versions next chains) (same ∙ sym (was.places_stay kept.slot)) ∙ marked_now
          ∙ ap (λ b. once_done stamp b (chain_versions start chains (chain_in start kept.slot))) (sym (done_this start (places chains stamp) j kept within is))
          ∙ ap (λ n. once_done stamp (is_done start (places chains stamp) (j + 1) n) (chain_versions start chains n)) (sym same)
      | inr other ↦
          facts.1 chain known (λ same. other (same ∙ was.places_stay kept.slot)) ∙ was.chained chain known
          ∙ ap (λ b. once_done stamp b (chain_versions start chains chain)) (sym (done_other start (places chains stamp) j kept within is chain other))
    ]

    moved_next : (items : List ChainedItem) → HaveAll items (held_in start chains) → IsMoved stamp (seen start (places chains stamp) (j + 1)) (marked_together stamp items (chain_lists start chains)) old.tags next_index.tags
    moved_next items have =
        let at = named_start in
        let v = at.version in
        let chain = chain_in start kept.slot in
        let owner = owner_of start chains chain stamp v.prepared items stands at.known at.found have in
        let i = owner.item.i in
        let key : v.prepared.key ≡ i.entry.key = key_at i.entry.key (chain_versions start chains chain) stamp v.prepared owner.own at.found in
        let got = facts.3 i.entry.key (own_so_far i.entry.key owner.own) in
        let u = got.0 in
        let lists = chain_lists start chains in
        let all = marked_together stamp items lists in
        let its : chain_at (map (map (marked_at stamp)) lists) i.chain ≡ chain_versions next chains (chain_in now kept.slot) =
        at_each (map (marked_at stamp)) refl lists i.chain ∙ ap (map (marked_at stamp)) (ap (chain_at lists) owner.item.chain_is ∙ chain_is start chains chain at.known) ∙ sym marked_now in
        let laid = laid_each (map (marked_at stamp)) refl (marked_own stamp) items lists have.laid in
        let latest = latest_of items (map (map (marked_at stamp)) lists) laid owner.item.k i owner.item.within owner.item.is (Some u) (subst (λ vs. IsLatest i.entry.key vs (Some u)) (sym its) got.1) in
        let latest_v : IsLatest v.prepared.key all (Some u) = subst (λ k. IsLatest k all (Some u)) (sym key) latest in
        let done = moved_item stamp (seen start (places chains stamp) j) (seen start (places chains stamp) (j + 1)) all old.tags index.tags v.prepared.key (v.prepared.stamp == stamp)
        (seen_more start (places chains stamp) j kept within is stamp v at.here) (was.moved items have) (eq-eqb v.prepared.stamp stamp at.stamp_is) u latest_v in
        let tags : with_tag index.tags v.prepared.key u.prepared.tag ≡ next_index.tags = ap (λ k. with_tag index.tags k u.prepared.tag) key ∙ sym got.2 in
        subst (λ t. IsMoved stamp (seen start (places chains stamp) (j + 1)) all old.tags t) tags done

    keys_next : (items : List ChainedItem) → HaveAll items (held_in start chains) → KnowsItems old.tags (entries_of items) → KnowsItems next_index.tags (entries_of items)
    keys_next items have knows =
        let at = named_start in
        let owner = owner_of start chains (chain_in start kept.slot) stamp at.version.prepared items stands at.known at.found have in
        let i = owner.item.i in
        let got = facts.3 i.entry.key (own_so_far i.entry.key owner.own) in
        subst (λ t. KnowsItems t (entries_of items)) (sym got.2)
        (knows_set index.tags i.entry.key got.0.prepared.tag (entries_of items) (ap is_some (entry_is items (chain_lists start chains) have.laid owner.item.k i owner.item.within owner.item.is)) (was.keys items have knows))

    pub one_more : SoFar start next chains after stamp (j + 1) old next_index (count + 1) before (visits + 1)
    one_more = record {
      stands = stands_next;
      rest = rest_next;
      own = own_next start now next chains heads after was.own own;
      listed = lists_same now next chains facts.0 was.listed;
      swept = swept_at_same now next chains stamp facts.0 was.swept;
      stays = λ slot when. facts.0 slot when ∙ was.stays slot when;
      places_stay = λ slot. places_stay slot ∙ was.places_stay slot;
      chained = chained_next;
      within = omega arith;
      counted = omega (arith, was.counted);
      visited = omega (arith, was.visited);
      room = room ∙ was.room;
      keys = keys_next;
      moved = moved_next;
    }

-- ---- which chains are noted

-- one place more
pub noted_more : (start : Cells) (kept : List Kept) (j : ℕ) (k : Kept) → j < length kept → k ≡ get_or kept j k → (old now : List Bool) (chain : ℕ) → chain ≡ chain_in start k.slot → chain < length now
    → ((n : ℕ) → get_or now n false ≡ (get_or old n false || is_done start kept j n)) → (n : ℕ) → get_or (set now chain true) n false ≡ (get_or old n false || is_done start kept (j + 1) n)
noted_more start kept j k within is old now chain chain_is less so_far n =
    grind (arith, nat_tests, set_at now chain true n less, so_far n, done_more start kept j k within is n)

-- a chain that is not noted is what it was
pub all_noted : (start now : Cells) (chains heads : Heads) (stamp j : ℕ) (old index : Index) (count before visits : ℕ) → SoFar start now chains heads stamp j old index count before visits → (was noted : List Bool)
    → ((n : ℕ) → get_or noted n false ≡ (get_or was n false || is_done start (places chains stamp) j n)) → AreNotedWhere was noted (chain_lists start chains) (chain_lists now chains)
all_noted start now chains heads stamp j old index count before visits so_far was noted all chain free =
    let both = or_parts (get_or was chain false) (is_done start (places chains stamp) j chain) (sym (all chain) ∙ free) in (
      both.0,
      elim (cases_lt chain (length chains.heads)) [
        | inl known ↦
            chain_is now chains chain known ∙ so_far.chained chain known
            ∙ ap (λ b. once_done stamp b (chain_versions start chains chain)) both.1
            ∙ sym (chain_is start chains chain known)
        | inr past ↦
            get_or-eq_default (chain_lists now chains) [] (omega (arith, past, chains_long now chains))
            ∙ sym (get_or-eq_default (chain_lists start chains) [] (omega (arith, past, chains_long start chains)))
      ],
    )

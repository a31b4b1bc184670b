-- For `Cell`, the calls that change it, and for its bases. Which items are still what they were when a base was made.
use Rattle.std.proofs.Common.{◌≡◌, ◌≢◌, ℕ, ◌<◌, ◌==◌, Bool, true, false, not, ◌&&◌, cond, List, [], ◌∷◌, map, set, length, get_or, count_by, All, Option, Some, inl, inr, refl, sym, ap, subst, ◌∙◌, arith}
use Rattle.std.specs.Prelude.{insert}
use Rattle.std.proofs.lemmas.Bool.{false_from_ne_true, both_ways}
use Rattle.std.proofs.lemmas.List.{get_or-set_same, get_or-set_other, length-map}
use Rattle.plain_store.proofs.Counting.{count_by-cons}
use Rattle.stamps.specs.Record.{Record}
use Rattle.version_chain.specs.declared.chains.Insert.{Insert}
use Rattle.version_chain.specs.declared.chains.Insert.TheVariants.{Added, Same, Other, Full}
use Rattle.version_chain.specs.declared.version.Version.{Version}
use Rattle.version_chain.specs.Heads.{Heads}
use Rattle.version_chain.specs.Chain.{Cells, HoldsChains, Falls, without_open}
use Rattle.version_chain.proofs.Replacing.{same_or_not}
use Rattle.prepare_commit.specs.declared.items.ChainedItem.{ChainedItem}
use Rattle.prepare_commit.specs.declared.parts.EntryPosition.{EntryPosition}
use Rattle.prepare_commit.specs.Begun.{BegunBase, IsAsBegun, IsKeptSince, IsNotedAt, LieAt, held_at, holdings, no_place, none_held}
use Rattle.prepare_commit.specs.Content.{marked_at}
use Rattle.prepare_commit.specs.Layout.{Chained, chain_lists, chain_at, item_chains, raised_item, kept_chain, InsertGives}
use Rattle.prepare_commit.specs.Remembered.{is_changed, AreNotedWhere, IsPassedOver, IsSettled, Remembers}
use Rattle.prepare_commit.proofs.Chaining.{at, within}
use Rattle.prepare_commit.proofs.Holding.{holdings_at, holdings_long}
use Rattle.prepare_commit.proofs.ListsOfLists.{at_each, All-insert}
use Rattle.prepare_commit.proofs.Places.{lies_there}
use Rattle.prepare_commit.proofs.Remembering.{remembered, collected_item, stays_item, stays_chain}
use Rattle.prepare_commit.proofs.StandsAfter.{unmarked}

-- there are no items
pub kept_nothing : (begun : BegunBase) (since : List Bool) (items : List ChainedItem) (chains : List (List Version)) → items ≡ [] → IsKeptSince begun since items chains
kept_nothing begun since items chains none k d within free = absurd (omega (arith, within, ap (λ (is : List ChainedItem). length is) none))

-- an item's entry and its versions alone count
pub same_still : (begun : BegunBase) (chains new : List (List Version)) (i : ChainedItem) → chain_at new i.chain ≡ chain_at chains i.chain → IsAsBegun begun chains i → IsAsBegun begun new i
same_still begun chains new i same was = was ∙ ap (λ (vs : List Version). Some (record { entry = i.entry; versions = vs })) (sym same)

-- where each chain was noted that changed
pub kept_noted : (begun : BegunBase) (old new : List Bool) (items : List ChainedItem) (chains after : List (List Version)) → AreNotedWhere old new chains after → IsKeptSince begun old items chains → IsKeptSince begun new items after
kept_noted begun old new items chains after noted was k d within free =
    let both = noted (get_or items k d).chain free in
    same_still begun chains after (get_or items k d) both.1 (was k d within both.0)

-- ---- a PREPARE

-- one chain was noted, and no other one changed
pub noted_one : (since : List Bool) (chains new : List (List Version)) (chain : ℕ) → chain < length since → ((n : ℕ) → n ≢ chain → chain_at new n ≡ chain_at chains n) → AreNotedWhere since (set since chain true) chains new
noted_one since chains new chain within others n free = elim (same_or_not n chain) [
  | inl same ↦ absurd (both_ways (get_or (set since chain true) n false) free (ap (λ k. get_or (set since chain true) k false) same ∙ get_or-set_same since chain true false within))
  | inr other ↦ (sym (get_or-set_other since chain n true false other) ∙ free, others n other)
]

pub others_stay : (r : Insert) (held new : Chained) (chain : ℕ) (v : Record) → InsertGives r held new chain v → (n : ℕ) → n ≢ chain → chain_at new.chains n ≡ chain_at held.chains n
others_stay Added held new chain v h n other =
    ap (λ (c : Chained). chain_at c.chains n) h.2.2 ∙ get_or-set_other held.chains chain n h.2.0 [] other
others_stay Same held new chain v h n other = ap (λ (c : Chained). chain_at c.chains n) h.1
others_stay Other held new chain v h n other = ap (λ (c : Chained). chain_at c.chains n) h.3
others_stay Full held new chain v h n other = ap (λ (c : Chained). chain_at c.chains n) h.2

-- and it is that of an item more
pub kept_first : (begun : BegunBase) (since : List Bool) (items : List ChainedItem) (chains new : List (List Version)) (i : ChainedItem) (place : ℕ) → i.chain < length since
    → ((n : ℕ) → n ≢ i.chain → chain_at new n ≡ chain_at chains n) → IsKeptSince begun since items chains → IsKeptSince begun (set since i.chain true) (insert items place i) new
kept_first begun since items chains new i place within others was =
    All-insert (λ (j : ChainedItem). is_changed (set since i.chain true) j ≡ false → IsAsBegun begun new j) items place i
    (kept_noted begun since (set since i.chain true) items chains new (noted_one since chains new i.chain within others) was)
    (λ free. absurd (both_ways (get_or (set since i.chain true) i.chain false) free (get_or-set_same since i.chain true false within)))

-- ---- a COMMIT, and a DISCARD

pub noted_marked : (stamp : ℕ) (old new : List Bool) (chains after : List (List Version)) → IsNotedAt stamp old new chains → after ≡ map (map (marked_at stamp)) chains → AreNotedWhere old new chains after
noted_marked stamp old new chains after noted marked n free =
    let both = noted n free in
    (both.0, ap (λ (cs : List (List Version)). chain_at cs n) marked ∙ at_each (map (marked_at stamp)) refl chains n ∙ unmarked stamp (chain_at chains n) both.1)

stays_whole : (stamp : ℕ) (vs : List Version) → count_by (λ (v : Version). v.prepared.stamp == stamp) vs ≡ 0 → without_open stamp vs ≡ vs
stays_whole stamp [] none = refl
stays_whole stamp (v ∷ vs) none =
    let n = count_by-cons (λ (u : Version). u.prepared.stamp == stamp) v vs in
    let miss : (v.prepared.stamp == stamp) ≡ false = false_from_ne_true _ (λ t. omega (arith, none, n, ap {B = ℕ} (λ b. cond b 1 0) t)) in
    ap (λ b. cond (not (b && not v.committed)) (v ∷ without_open stamp vs) (without_open stamp vs)) miss
    ∙ ap (λ (us : List Version). v ∷ us) (stays_whole stamp vs (omega (arith, none, n)))

pub noted_gone : (stamp : ℕ) (old new : List Bool) (chains after : List (List Version)) → IsNotedAt stamp old new chains → after ≡ map (without_open stamp) chains → AreNotedWhere old new chains after
noted_gone stamp old new chains after noted gone n free =
    let both = noted n free in
    (both.0, ap (λ (cs : List (List Version)). chain_at cs n) gone ∙ at_each (without_open stamp) refl chains n ∙ stays_whole stamp (chain_at chains n) both.1)

-- ---- a collection

pub kept_collected : (begun : BegunBase) (keep : ℕ) (last : Option ℕ) (changed : List Bool) (least : Option ℕ) (noted_since old since : List Bool) (items : List ChainedItem) (chains new : List (List Version)) → Remembers last changed items chains → Remembers least noted_since items chains
    → ((chain : ℕ) → chain < length old → get_or since chain false ≡ false → (get_or old chain false ≡ false) × IsPassedOver keep last changed least noted_since chain)
    → All (λ (i : ChainedItem). i.chain < length old) items
    → item_chains (map (raised_item keep chains) items) new ≡ map (kept_chain keep chains) items
    → IsKeptSince begun old items chains → IsKeptSince begun since (map (raised_item keep chains) items) new
kept_collected begun keep last changed least noted_since old since items chains new remembers remembers_least noted known kept was k d within free =
    let less : k < length items = omega (arith, within, length-map items (raised_item keep chains)) in
    let i = get_or items k d in
    let all = noted i.chain (known k d less) (sym (ap (λ (j : ChainedItem). get_or since j.chain false) (collected_item keep chains new items kept k d less)) ∙ free) in
    let settled : IsSettled keep chains i = elim all.1 [
      | inl recent ↦ remembered last keep changed items chains recent.0 remembers k d less recent.1
      | inr before ↦ remembered least keep noted_since items chains before.0 remembers_least k d less before.1
    ] in
    let same = stays_item keep chains new items kept k d less settled in
    let its = stays_chain keep chains new items kept k d less settled in
    subst (λ (j : ChainedItem). IsAsBegun begun new j) (sym same) (same_still begun chains new i its (was k d less all.0))

-- ---- a base that was made of the items, or that has what they have

-- each chain was noted
pub kept_noted_all : (begun : BegunBase) (since : List Bool) (items : List ChainedItem) (chains : List (List Version)) → ((chain : ℕ) → chain < length since → get_or since chain false ≡ true) → All (λ (i : ChainedItem). i.chain < length since) items → IsKeptSince begun since items chains
kept_noted_all begun since items chains noted known k d within free =
    absurd (both_ways (get_or since (get_or items k d).chain false) free (noted (get_or items k d).chain (known k d within)))

-- the items lie at these places
pub kept_begun : (begun : BegunBase) (since : List Bool) (items : List ChainedItem) (chains : List (List Version)) (places : List EntryPosition) → LieAt begun.parts places (holdings items chains)
    → ((nth : ℕ) (d : ChainedItem) → nth < length items → get_or begun.spots (get_or items nth d).chain no_place ≡ get_or places nth no_place) → IsKeptSince begun since items chains
kept_begun begun since items chains places lie spots k d within free =
    ap (held_at begun.parts) (spots k d within)
    ∙ lies_there begun.parts places (holdings items chains) lie k no_place none_held (omega (arith, within, holdings_long items chains))
    ∙ ap Some (holdings_at items chains k d none_held within)

-- ---- the chains in a block

pub all_fall : (block : Cells) (heads : Heads) → HoldsChains block heads → (items : List ChainedItem) → All (λ (i : ChainedItem). i.chain < length (chain_lists block heads)) items → All (λ (i : ChainedItem). Falls (chain_at (chain_lists block heads) i.chain)) items
all_fall block heads stands items known k d less =
    let i = get_or items k d in
    subst Falls (sym (at block heads i.chain (known k d less))) (stands.falling i.chain (within block heads i.chain (known k d less)))

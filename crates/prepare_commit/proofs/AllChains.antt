-- For `Cell::commit_counted`. The items have all versions of the chains.
use Rattle.std.proofs.Common.{◌≡◌, ◌≢◌, inl, inr, ℕ, suc, ◌<◌, Bool, List, [], ◌∷◌, map, length, get_or, count_by, sum_by, refl, sym, ◌∙◌, arith}
use Rattle.std.proofs.lemmas.List.Concat.{length-flat_map}
use Rattle.std.proofs.lemmas.List.Sums.{count_by-le-length}
use Rattle.version_chain.specs.declared.version.Version.{Version}
use Rattle.version_chain.proofs.Picking.{Has, Lacks, Apart, picked_at, is_picked, is_all}
use Rattle.prepare_commit.specs.declared.items.ChainedItem.{ChainedItem}
use Rattle.prepare_commit.specs.Layout.{Chained, chain_at, together, item_chains, HaveOwnChains, HaveAll}
use Rattle.prepare_commit.proofs.ListsOfLists.{sum_by-map, count-joined}

lacks : (n : ℕ) (items : List ChainedItem) → ((k : ℕ) (d : ChainedItem) → k < length items → (get_or items k d).chain ≢ n) → Lacks n (map (λ (i : ChainedItem). i.chain) items)
lacks n [] other = tt
lacks n (i ∷ items) other = (other 0 i (omega arith), lacks n items (λ k d within. other (suc k) d (omega arith)))

apart : (items : List ChainedItem) → HaveOwnChains items → Apart (map (λ (i : ChainedItem). i.chain) items)
apart [] own = tt
apart (i ∷ items) own = (
  lacks i.chain items (λ k d within same. (let one = own (suc k) 0 d (omega arith) (omega arith) same in omega arith)),
  apart items (λ j k d first second same. (let one = own (suc j) (suc k) d (omega arith) (omega arith) same in omega arith)),
)

sum_items : (f : List Version → ℕ) (chains : List (List Version)) (items : List ChainedItem) → sum_by (picked_at f [] chains) (map (λ (i : ChainedItem). i.chain) items) ≡ sum_by f (item_chains items chains)
sum_items f chains items = sum_by-map (picked_at f [] chains) (λ (i : ChainedItem). i.chain) items ∙ sym (sum_by-map f (λ (i : ChainedItem). chain_at chains i.chain) items)

-- the item that has a chain
pub record ItsItem (items : List ChainedItem) (chain : ℕ) : Type 0 where
  pub k : ℕ
  pub i : ChainedItem
  pub within : k < length items
  pub is : i ≡ get_or items k i
  pub chain_is : i.chain ≡ chain

its_item : (chain : ℕ) (items : List ChainedItem) → Has chain (map (λ (i : ChainedItem). i.chain) items) → ItsItem items chain
its_item chain [] has = absurd has
its_item chain (i ∷ items) (inl same) = record { k = 0; i = i; within = omega arith; is = refl; chain_is = same }
its_item chain (i ∷ items) (inr has) =
    let rest = its_item chain items has in
    record { k = suc rest.k; i = rest.i; within = (let more = rest.within in omega arith); is = rest.is; chain_is = rest.chain_is }

module _ (items : List ChainedItem) (held : Chained) (have : HaveAll items held) (counted : held.used ≡ sum_by (λ (vs : List Version). length vs) held.chains) where
  named : (chain : ℕ) → 0 < length (chain_at held.chains chain) → Has chain (map (λ (i : ChainedItem). i.chain) items)
  named chain more =
      is_picked (λ (vs : List Version). length vs) [] refl chain (map (λ (i : ChainedItem). i.chain) items) held.chains (apart items have.laid.apart)
      (sum_items (λ (vs : List Version). length vs) held.chains items ∙ sym (length-flat_map (λ (vs : List Version). vs) (item_chains items held.chains)) ∙ sym have.counted ∙ counted) more

  -- a chain with a version is an item's
  pub item_of : (chain : ℕ) → 0 < length (chain_at held.chains chain) → ItsItem items chain
  item_of chain more = its_item chain items (named chain more)

  -- as many versions of the items pass a test as of the chains
  pub count_all : (test : Version → Bool) → count_by test (together (item_chains items held.chains)) ≡ sum_by (count_by test) held.chains
  count_all test =
      count-joined test (item_chains items held.chains)
      ∙ sym (sum_items (count_by test) held.chains items)
      ∙ is_all (count_by test) [] refl (map (λ (i : ChainedItem). i.chain) items) held.chains (apart items have.laid.apart)
      (λ chain more. named chain (let less = count_by-le-length test (chain_at held.chains chain) in omega arith))

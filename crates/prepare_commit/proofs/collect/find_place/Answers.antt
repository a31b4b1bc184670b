use Rattle.std.proofs.Common.{◌≡◌, ◌<◌, ℕ, is_some, inl, inr, List, [], ◌∷◌, Some, None, length, get_or, All, refl, ap, sym, subst, ◌∙◌, arith}
use Rattle.std.proofs.lemmas.Bool.{both_ways}
use Rattle.std.proofs.lemmas.List.Elements.{All-head}
use Rattle.stamps.specs.Record.{Record}
use Rattle.version_chain.specs.declared.version.Version.{Version}
use Rattle.version_chain.specs.Heads.{Heads}
use Rattle.version_chain.specs.Chain.{Cells, HoldsChains, first_record}
use Rattle.stamps.specs.Key.{key_cmp}
use Rattle.secondary_index.specs.Ordered.{StandsAt, BelongsAt}
use Rattle.prepare_commit.specs.declared.items.ChainedItem.{ChainedItem}
use Rattle.prepare_commit.specs.Layout.{IsPlaceOf, entries_of, item_row, held_in, chain_lists, chain_at, IsVersionOf, HaveAll}
use Rattle.prepare_commit.proofs.AllChains.{ItsItem, item_of}
use Rattle.prepare_commit.proofs.Chaining.{has_chain}
use Rattle.prepare_commit.proofs.EachPlace.{used_is}
use Rattle.prepare_commit.proofs.OwnChains.{keys_apart, own_chain, no_entry, entry_is}
use Rattle.prepare_commit.specs.Content.{entry_at}
use Rattle.version_chain.proofs.Replacing.{same_or_not}
use Rattle.prepare_commit.proofs.collect.find_place.Goals as goal

no_first : (vs : List Version) → None ≡ first_record vs → vs ≡ []
no_first [] e = refl
no_first (v ∷ vs) e = cc

first_is : (vs : List Version) (r : Record) → Some r ≡ first_record vs → (0 < length vs) × ((key : List ℕ) → All (IsVersionOf key) vs → r.key ≡ key)
first_is [] r e = cc
first_is (v ∷ vs) r e =
    let same : r ≡ v.prepared = cc in
    (omega arith, λ key all. ap (λ (x : Record). x.key) same ∙ (All-head (IsVersionOf key) v vs all).key_is)

module _ (block : Cells) (heads : Heads) (items : List ChainedItem) (chain : ℕ) (r : Record) (stands : HoldsChains block heads) (have : HaveAll items (held_in block heads)) (first : Some r ≡ first_record (chain_at (chain_lists block heads) chain)) where
  -- the item that has the chain
  owner : ItsItem items chain
  owner = item_of items (held_in block heads) have (used_is block heads stands) chain (first_is (chain_at (chain_lists block heads) chain) r first).0

  key_is : r.key ≡ owner.i.entry.key
  key_is =
      let own = own_chain items (chain_lists block heads) have.laid owner.k owner.i owner.within owner.is in
      (first_is (chain_at (chain_lists block heads) chain) r first).1 owner.i.entry.key (subst (λ n. All (IsVersionOf owner.i.entry.key) (chain_at (chain_lists block heads) n)) owner.chain_is own)

  -- which stands somewhere
  is_there : (key : List ℕ) (place : ℕ) → key ≡ r.key → BelongsAt key_cmp item_row key items place → ⊥
  is_there key place same belongs =
      both_ways (is_some (entry_at key (entries_of items)))
      (ap is_some (no_entry items (chain_lists block heads) have.laid place key belongs))
      (ap (λ k. is_some (entry_at k (entries_of items))) (same ∙ key_is) ∙ ap is_some (entry_is items (chain_lists block heads) have.laid owner.k owner.i owner.within owner.is))

  -- at the place that was found
  is_place : (key : List ℕ) (place : ℕ) → key ≡ r.key → StandsAt key_cmp item_row key items place → owner.i ≡ get_or items place owner.i
  is_place key place same found =
      let there : (get_or items place owner.i).entry.key ≡ owner.i.entry.key = found.is owner.i ∙ same ∙ key_is in
      let at_k : owner.i ≡ get_or items owner.k owner.i = owner.is in
      elim (same_or_not place owner.k) [
        | inl e ↦ at_k ∙ ap (λ n. get_or items n owner.i) (sym e)
        | inr other ↦ absurd (keys_apart items have.laid.in_order place owner.k owner.i found.within owner.within other (there ∙ ap (λ (x : ChainedItem). x.entry.key) at_k))
      ]

  found : (key : List ℕ) (place : ℕ) → key ≡ r.key → StandsAt key_cmp item_row key items place → IsPlaceOf items chain place
  found key place same stands = record { within = stands.within; i = owner.i; is = is_place key place same stands; chain_is = owner.chain_is }

pub first-requires : goal.first-requires
first-requires c = has_chain c.args.block.now c.args.versions.now.chains c.args.chain c.requires.held.lies.stands c.requires.known

pub search-requires : goal.search-requires
search-requires c = c.requires.held.have.laid.in_order

pub unreachable-requires : goal.unreachable-requires
unreachable-requires c =
    is_there c.args.block.now c.args.versions.now.chains c.args.items.now.items c.args.chain c.in_ok-first.first c.requires.held.lies.stands c.requires.held.have c.in_ok-first.ensures c.key-key.result c.in_default.field-0 c.key-key.ensures c.in_default.ensures

pub returns-clause-found : goal.returns-clause-found
returns-clause-found c =
    found c.args.block.now c.args.versions.now.chains c.args.items.now.items c.args.chain c.in_ok-first.first c.requires.held.lies.stands c.requires.held.have c.in_ok-first.ensures c.key-key.result c.in-Ok.place c.key-key.ensures c.in-Ok.ensures

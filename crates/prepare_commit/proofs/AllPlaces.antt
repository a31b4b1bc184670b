-- For `Cell::commit_counted`. What is left once all versions of a stamp are committed.
use Rattle.std.proofs.Common.{◌≡◌, inl, inr, ℕ, ◌<◌, ◌≤◌, ◌==◌, ◌&&◌, nat_lt, Bool, true, false, cond, List, [], ◌∷◌, map, take, length, get_or, count_by, sum_by, Option, Some, None, bytes_eq, refl, sym, ap, subst, ◌∙◌, arith}
use mathlib.Core.Bool.{and-true, and_comm}
use Rattle.std.specs.List.{list_any, flat_map}
use Rattle.std.proofs.lemmas.Bool.{both_ways, cases_lt}
use Rattle.std.proofs.lemmas.Bool.Decides.{nat_tests}
use Rattle.std.proofs.lemmas.List.{map-append, get_or_default, take_all}
use Rattle.plain_store.specs.Log.{is_version}
use Rattle.plain_store.specs.Words.{Key}
use Rattle.plain_store.proofs.Counting.{counted, count_by-all, any_is, count_by-cons, count_by-map}
use Rattle.secondary_index.specs.Index.{Index}
use Rattle.version_arena.specs.Arena.{entry}
use Rattle.version_chain.specs.Node.{Node}
use Rattle.version_chain.specs.declared.version.Version.{Version}
use Rattle.version_chain.specs.declared.stamp_list.Kept.{Kept}
use Rattle.version_chain.specs.Heads.{Heads}
use Rattle.version_chain.specs.Chain.{Cells, HoldsChains, chain_versions, follow}
use Rattle.version_chain.specs.Listed.{is_at_stamp, chain_in, Lists, IsSweptAt}
use Rattle.version_chain.proofs.Listing.{second_of}
use Rattle.version_chain.proofs.Places.{places, weight, tally, chain_placed, place_stamp, place_named}
use Rattle.prepare_commit.specs.declared.items.ChainedItem.{ChainedItem}
use Rattle.prepare_commit.specs.Content.{marked_at, has_version_of, IsMoved}
use Rattle.prepare_commit.specs.Layout.{held_in, chain_lists, together, item_chains, HaveAll}
use Rattle.prepare_commit.proofs.AllChains.{count_all}
use Rattle.prepare_commit.proofs.Chaining.{chains_each}
use Rattle.prepare_commit.proofs.EachPlace.{SoFar, is_done, seen, version_in, once_done, marked_together, used_is}
use Rattle.prepare_commit.proofs.ItemByItem.{together_each}
use Rattle.prepare_commit.proofs.ListsOfLists.{sum_by-map, sum_by-alike, count-flat_map}
use Rattle.prepare_commit.proofs.StandsAfter.{unmarked}

abbrev one_if : Bool → ℕ
one_if b = cond b 1 0

any_counted : (p : Version → Bool) (xs : List Version) → list_any p xs ≡ nat_lt 0 (count_by p xs)
any_counted p [] = refl
any_counted p (x ∷ xs) = grind (arith, nat_tests, any_counted p xs, count_by-cons p x xs)

-- the version that a place names, counted where it is of the item
one_named : (tenant stamp : ℕ) (key : Key) (e : Option (Node × Option ℕ)) → is_at_stamp tenant stamp e ≡ true → count_by (λ (v : Version). is_version key stamp v.prepared) (version_in e) ≡ weight tenant stamp (λ (v : Version). bytes_eq v.prepared.key key) e
one_named tenant stamp key None named = absurd (let none : false ≡ true = named in cc)
one_named tenant stamp key (Some cell) named =
    let v = cell.0.version in
    let all = count_by-cons (λ (x : Version). is_version key stamp x.prepared) v [] in
    let second : (v.prepared.stamp == stamp) ≡ true = second_of (cell.0.tenant == tenant) (v.prepared.stamp == stamp) named in
    let left = ap one_if (ap (λ b. bytes_eq v.prepared.key key && b) second ∙ and-true (bytes_eq v.prepared.key key)) in
    let right = ap (λ b. one_if (b && bytes_eq v.prepared.key key)) named in
    omega (arith, all, left, right)

module _ (start : Cells) (chains : Heads) (stamp : ℕ) (stands : HoldsChains start chains) (lists : Lists start chains) (swept : IsSweptAt stamp chains.tenant start chains.kept) where
  abbrev p_of : Key → Version → Bool
  p_of key v = is_version key stamp v.prepared

  at_place : (i : ℕ) (d : Kept) → i < length (places chains stamp) → is_at_stamp chains.tenant stamp (entry start (get_or (places chains stamp) i d).slot) ≡ true
  at_place i d within =
      let k = get_or (places chains stamp) i d in
      let is = get_or_default (places chains stamp) i d k within in
      ap (λ s. is_at_stamp chains.tenant s (entry start k.slot)) (sym (place_stamp start chains stamp i k within is)) ∙ place_named start chains stamp i k within is swept

  -- how many places there are
  pub places_count : length (places chains stamp) ≡ sum_by (count_by (λ (v : Version). v.prepared.stamp == stamp)) (chain_lists start chains)
  places_count =
      sym (sum_by-alike (λ (k : Kept). weight chains.tenant stamp (λ (v : Version). true) (entry start k.slot)) (λ _. 1) (places chains stamp)
      (λ i d within. each (entry start (get_or (places chains stamp) i d).slot) (at_place i d within)) ∙ count_by-all (places chains stamp))
      ∙ tally start chains stands lists stamp (λ (v : Version). true)
      ∙ (λ i. sum_by (λ from. count_by (λ (v : Version). and-true (v.prepared.stamp == stamp) i) (follow start (length start) from)) chains.heads)
      ∙ sym (sum_by-map (count_by (λ (v : Version). v.prepared.stamp == stamp)) (follow start (length start)) chains.heads)
    where
      each : (e : Option (Node × Option ℕ)) → is_at_stamp chains.tenant stamp e ≡ true → weight chains.tenant stamp (λ (v : Version). true) e ≡ 1
      each None named = absurd (let none : false ≡ true = named in cc)
      each (Some cell) named = ap (λ b. one_if (b && true)) named

  module _ (now : Cells) (heads : Heads) (j : ℕ) (old index : Index) (count before visits : ℕ) (was : SoFar start now chains heads stamp j old index count before visits) (end : length (places chains stamp) ≤ j) where
    all_taken : take j (places chains stamp) ≡ places chains stamp
    all_taken = take_all j (places chains stamp) end

    each_marked : (chain : ℕ) → chain < length chains.heads → chain_versions now chains chain ≡ map (marked_at stamp) (chain_versions start chains chain)
    each_marked chain known = was.chained chain known ∙ by (is_done start (places chains stamp) j chain) refl
      where
        by : (b : Bool) → is_done start (places chains stamp) j chain ≡ b → once_done stamp b (chain_versions start chains chain) ≡ map (marked_at stamp) (chain_versions start chains chain)
        by true e = refl
        by false e = elim (cases_lt 0 (count_by (λ (v : Version). v.prepared.stamp == stamp) (chain_versions start chains chain))) [
          | inl more ↦
              let there = counted (λ (k : Kept). chain_in start k.slot == chain) (places chains stamp) (chain_placed start chains stands lists stamp chain known more) in
              let any = any_is (λ (k : Kept). chain_in start k.slot == chain) (places chains stamp) there.0 there.1 there.2 in
              absurd (both_ways (is_done start (places chains stamp) j chain) e (ap (list_any (λ (k : Kept). chain_in start k.slot == chain)) all_taken ∙ any))
          | inr none ↦ sym (unmarked stamp (chain_versions start chains chain) (omega arith))
        ]

    pub all_marked : chain_lists now chains ≡ map (map (marked_at stamp)) (chain_lists start chains)
    all_marked = chains_each start now chains chains (map (marked_at stamp)) refl each_marked

    pub all_counted : count ≡ sum_by (count_by (λ (v : Version). v.prepared.stamp == stamp)) (chain_lists start chains)
    all_counted = (let whole : count ≡ length (places chains stamp) = omega (arith, was.counted, was.within, end) in whole) ∙ places_count

    module _ (items : List ChainedItem) (have : HaveAll items (held_in start chains)) where
      abbrev all : List Version
      all = marked_together stamp items (chain_lists start chains)

      has_same : (key : Key) → has_version_of stamp (seen start (places chains stamp) j) key ≡ has_version_of stamp all key
      has_same key =
          let counts : count_by (p_of key) (seen start (places chains stamp) j) ≡ count_by (p_of key) all =
          ap (λ ks. count_by (p_of key) (flat_map (λ (k : Kept). version_in (entry start k.slot)) ks)) all_taken
          ∙ count-flat_map (p_of key) (λ (k : Kept). version_in (entry start k.slot)) (places chains stamp)
          ∙ sum_by-alike (λ (k : Kept). count_by (p_of key) (version_in (entry start k.slot))) (λ (k : Kept). weight chains.tenant stamp (λ (v : Version). bytes_eq v.prepared.key key) (entry start k.slot)) (places chains stamp)
          (λ i d within. one_named chains.tenant stamp key (entry start (get_or (places chains stamp) i d).slot) (at_place i d within))
          ∙ tally start chains stands lists stamp (λ (v : Version). bytes_eq v.prepared.key key)
          ∙ (λ i. sum_by (λ from. count_by (λ (v : Version). and_comm (v.prepared.stamp == stamp) (bytes_eq v.prepared.key key) i) (follow start (length start) from)) chains.heads)
          ∙ sym (sum_by-map (count_by (p_of key)) (follow start (length start)) chains.heads)
          ∙ sym (count_all items (held_in start chains) have (used_is start chains stands) (p_of key))
          ∙ sym (count_by-map (p_of key) (marked_at stamp) (together (item_chains items (chain_lists start chains))))
          ∙ ap (count_by (p_of key)) (sym (together_each (map (marked_at stamp)) refl (map-append (marked_at stamp)) items (chain_lists start chains)))
          in
          any_counted (p_of key) (seen start (places chains stamp) j) ∙ ap (nat_lt 0) counts ∙ sym (any_counted (p_of key) all)

      pub all_moved : (let left = together (item_chains items (chain_lists now chains)) in IsMoved stamp left left old.tags index.tags)
      all_moved =
          let moved = was.moved items have in
          let here : IsMoved stamp all all old.tags index.tags = record {
            moved = λ key some. moved.moved key (has_same key ∙ some);
            stays = λ key none. moved.stays key (has_same key ∙ none);
          } in
          subst (λ vs. IsMoved stamp vs vs old.tags index.tags) (sym (ap (λ lists. together (item_chains items lists)) all_marked)) here

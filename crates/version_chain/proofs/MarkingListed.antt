-- For `Chains::mark_slot` and `mark`. A version is marked where it stands.
use Rattle.std.proofs.Common.{◌≡◌, inl, inr, ℕ, ◌<◌, ◌==◌, Bool, true, false, cond, length, set, Option, Some, None, is_some, IsSome, refl, sym, ap, subst, ◌∙◌}
use Rattle.std.proofs.lemmas.Bool.{eq-eqb, eqb-true}
use Rattle.std.proofs.lemmas.List.{get_or-set_same, get_or-set_other}
use Rattle.version_arena.specs.Arena.{entry, IsLive, next_beside}
use Rattle.version_chain.specs.Node.{Node}
use Rattle.version_chain.specs.declared.stamp_list.Kept.{Kept}
use Rattle.version_chain.specs.Heads.{Heads, latest_slot}
use Rattle.version_chain.specs.Chain.{Cells, HoldsChains, chain_versions, at_stamp, IsMarkedAt}
use Rattle.version_chain.specs.Listed.{is_at_stamp, is_named, chain_of, chain_in, held_at, with_latest, NoneMove}
use Rattle.version_chain.specs.Place.{IsPlace, is_past}
use Rattle.version_chain.proofs.Finding.{last_is, found_at}
use Rattle.version_chain.proofs.Latest.{first_committed}
use Rattle.version_chain.proofs.Listing.{both, first_of, second_of}
use Rattle.version_chain.proofs.Marking.{Marked, as_committed, marked_at}
use Rattle.version_chain.proofs.Replacing.{same_or_not}
use Rattle.version_chain.proofs.Slots.{placed}
use Rattle.version_chain.proofs.Writing.{live_within}

-- what a mark of a listed version leaves
pub record MarkedAt (cells : Cells) (chains : Heads) (kept : Kept) (node : Node) : Type 0 where
  pub known : node.chain < length chains.heads
  pub place : IsPlace cells chains node.chain node.version.prepared.stamp (Some kept.slot) (next_beside cells kept.slot)
  pub found : at_stamp (chain_versions cells chains node.chain) kept.stamp ≡ Some node.version.prepared
  pub whose : node.tenant ≡ chains.tenant
  pub stamp : node.version.prepared.stamp ≡ kept.stamp

pub marks : (cells : Cells) (chains : Heads) (kept : Kept) (node : Node) → HoldsChains cells chains → entry cells kept.slot ≡ Some (node, next_beside cells kept.slot) → is_named chains.tenant cells kept ≡ true → MarkedAt cells chains kept node
marks cells chains kept node stands read named =
    let next = next_beside cells kept.slot in
    let is : is_at_stamp chains.tenant kept.stamp (Some (node, next)) ≡ true = ap (is_at_stamp chains.tenant kept.stamp) (sym read) ∙ named in
    let whose : node.tenant ≡ chains.tenant = eqb-true node.tenant chains.tenant (first_of (node.tenant == chains.tenant) (node.version.prepared.stamp == kept.stamp) is) in
    let stamp : node.version.prepared.stamp ≡ kept.stamp = eqb-true node.version.prepared.stamp kept.stamp (second_of (node.tenant == chains.tenant) (node.version.prepared.stamp == kept.stamp) is) in
    let at = placed cells chains stands kept.slot node next read whose in
    let when = node.version.prepared.stamp in
    record {
      known = at.known;
      place = at.place;
      found = subst (λ s. at_stamp (chain_versions cells chains node.chain) s ≡ Some node.version.prepared) stamp
          (found_at cells chains node.chain when next kept.slot node at.place read stands at.known refl);
      whose = whose;
      stamp = stamp;
    }

-- a cell that is marked in its place
module _ (old new : Cells) (slot : ℕ) (node : Node) (held : entry old slot ≡ Some (node, next_beside old slot)) where
  abbrev in_place : Option (Node × Option ℕ)
  in_place = Some (record { tenant = node.tenant; chain = node.chain; version = as_committed node.version }, next_beside old slot)

  within_block : slot < length old
  within_block = live_within old slot (node, next_beside old slot) held

  each_entry : (P : Option (Node × Option ℕ) → Option (Node × Option ℕ) → Type 0) → P in_place (Some (node, next_beside old slot)) → ((e : Option (Node × Option ℕ)) → P e e) → (place : ℕ) → P (entry (set old slot in_place) place) (entry old place)
  each_entry P here same place = elim (same_or_not place slot) [
    | inl at ↦
        subst (λ k. P (entry (set old slot in_place) k) (entry old k)) (sym at)
        (subst (λ e. P (entry (set old slot in_place) slot) e) (sym held) (subst (λ e. P e (Some (node, next_beside old slot))) (sym (get_or-set_same old slot in_place None within_block)) here))
    | inr other ↦ subst (λ e. P e (entry old place)) (sym (get_or-set_other old slot place in_place None other)) (same (entry old place))
  ]

-- what a mark of a listed version leaves, once the block is read anew
pub record MarkedSlot (old new : Cells) (chains after : Heads) (kept : Kept) (chain : ℕ) : Type 0 where
  pub known : chain < length chains.heads
  pub left : Marked old new chains after chain kept.stamp
  pub stays : NoneMove old new chains.tenant
  pub place : chain ≡ chain_in old kept.slot
  pub places : (slot : ℕ) → chain_in new slot ≡ chain_in old slot
  pub found : IsSome (at_stamp (chain_versions old chains chain) kept.stamp)

pub marks_slot : (old new : Cells) (chains : Heads) (kept : Kept) (chain : ℕ) → IsMarkedAt old new kept.slot → chain ≡ chain_in old kept.slot → HoldsChains old chains → is_named chains.tenant old kept ≡ true
    → (rises : Bool) → rises ≡ is_past (first_committed (chain_versions old chains chain)) kept.stamp → MarkedSlot old new chains (with_latest chains (set chains.latest chain (cond rises (Some kept.slot) (latest_slot chains chain)))) kept chain
marks_slot old new chains kept chain mark place stands named rises rises_is =
    let node = mark.node in
    let next = next_beside old kept.slot in
    let at = marks old chains kept node stands mark.held named in
    let chain_is : chain ≡ node.chain = place ∙ ap chain_of mark.held in
    let after : ℕ → Heads = λ n. with_latest chains (set chains.latest n (cond rises (Some kept.slot) (latest_slot chains n))) in
    let marked : Marked old (set old kept.slot (Some (record { tenant = node.tenant; chain = node.chain; version = as_committed node.version }, next))) chains (after node.chain) node.chain node.version.prepared.stamp =
    marked_at old chains node.chain node.version.prepared.stamp next kept.slot node at.place mark.held stands at.known refl rises
    (rises_is ∙ ap (λ n. is_past (first_committed (chain_versions old chains n)) kept.stamp) chain_is ∙ ap (is_past (first_committed (chain_versions old chains node.chain))) (sym at.stamp)) in
    let left : Marked old new chains (after chain) chain kept.stamp =
    subst (λ s. Marked old new chains (after chain) chain s) at.stamp
    (subst (λ n. Marked old new chains (after n) n node.version.prepared.stamp) (sym chain_is) (subst (λ (b : Cells). Marked old b chains (after node.chain) node.chain node.version.prepared.stamp) (sym mark.new_is) marked)) in
    record {
      known = subst (λ n. n < length chains.heads) (sym chain_is) at.known;
      left = left;
      stays = λ slot stamp.
          ap (λ (b : Cells). is_at_stamp chains.tenant stamp (entry b slot)) mark.new_is
          ∙ each_entry old new kept.slot node mark.held (λ e f. is_at_stamp chains.tenant stamp e ≡ is_at_stamp chains.tenant stamp f) refl (λ e. refl) slot;
      place = place;
      places = λ slot.
          ap (λ (b : Cells). chain_in b slot) mark.new_is ∙ each_entry old new kept.slot node mark.held (λ e f. chain_of e ≡ chain_of f) refl (λ e. refl) slot;
      found = ap is_some (ap (λ n. at_stamp (chain_versions old chains n) kept.stamp) chain_is ∙ at.found);
    }

-- what is named is live
pub named_live : (cells : Cells) (chains : Heads) (kept : Kept) → is_named chains.tenant cells kept ≡ true → IsLive cells kept.slot
named_live cells chains kept named = by (entry cells kept.slot) named
  where
    by : (e : Option (Node × Option ℕ)) → is_at_stamp chains.tenant kept.stamp e ≡ true → IsSome e
    by None is = absurd (let none : false ≡ true = is in cc)
    by (Some cell) is = refl

-- the version that a search for its stamp ends at is named by its slot, and stands in that chain
module _ (cells : Cells) (chains : Heads) (chain stamp : ℕ) (last here : Option ℕ) (slot : ℕ) (node : Node) (place : IsPlace cells chains chain stamp last here) (is : last ≡ Some slot) (read : entry cells slot ≡ Some (node, next_beside cells slot)) where
  whose_at : node ≡ record { tenant = chains.tenant; chain = chain; version = node.version }
  whose_at = (last_is cells chains chain stamp here slot node (subst (λ l. IsPlace cells chains chain stamp l here) is place) read).node_is

  pub named_at : node.version.prepared.stamp ≡ stamp → is_named chains.tenant cells (held_at stamp slot) ≡ true
  named_at same =
      ap (is_at_stamp chains.tenant stamp) read
      ∙ both (node.tenant == chains.tenant) (node.version.prepared.stamp == stamp) (eq-eqb node.tenant chains.tenant (ap (λ (n : Node). n.tenant) whose_at)) (eq-eqb node.version.prepared.stamp stamp same)

  pub chain_at : chain_in cells slot ≡ chain
  chain_at = ap chain_of read ∙ ap (λ (n : Node). n.chain) whose_at

-- For `Chains::record_at` and `mark`. What a chain has at a stamp, by the last version that is not below it.
use Rattle.std.proofs.Common.{◌≡◌, ◌≢◌, ℕ, ◌<◌, ◌≤◌, List, [], ◌∷◌, ◌++◌, length, Option, Some, None, IsSome, is_some, refl, sym, ap, subst, ◌∙◌, arith, append_assoc}
use Rattle.version_arena.specs.Arena.{entry, next_beside}
use Rattle.version_chain.specs.Node.{Node}
use Rattle.version_chain.specs.declared.version.Version.{Version}
use Rattle.version_chain.specs.Heads.{Heads, head}
use Rattle.version_chain.specs.Chain.{Cells, IsPath, Falls, HoldsChains, chain_versions, at_stamp}
use Rattle.version_chain.specs.Place.{NoneBelow, IsPlace}
use Rattle.version_chain.proofs.Falling.{EachAbove, Falls-before, missing_stamp, its_stamp, each_less, each-push, none_below-last}
use Rattle.version_chain.proofs.Walks.{node_of}

-- the version before a place is that of the node
pub record IsLast (cells : Cells) (chains : Heads) (chain : ℕ) (above : List Version) (slot : ℕ) (here : Option ℕ) (node : Node) : Type 0 where
  pub before : List Version
  pub above_is : above ≡ before ++ node.version ∷ []
  pub path : IsPath cells chains.tenant chain (head chains chain) before (Some slot)
  pub node_is : node ≡ record { tenant = chains.tenant; chain = chain; version = node.version }
  pub found : entry cells slot ≡ Some (node, here)

module _ (cells : Cells) (chains : Heads) (chain stamp : ℕ) (here : Option ℕ) where
  module _ (slot : ℕ) (node : Node) (place : IsPlace cells chains chain stamp (Some slot) here) (read : entry cells slot ≡ Some (node, next_beside cells slot)) where
    pub last_is : IsLast cells chains chain place.above slot here node
    last_is =
        let same : node ≡ record { tenant = chains.tenant; chain = chain; version = place.ends.1 } = ap (λ e. node_of e node) (sym read ∙ place.ends.4) in
        let version : place.ends.1 ≡ node.version = sym (ap (λ n. n.version) same) in
        record {
          before = place.ends.0;
          above_is = place.ends.2 ∙ ap (λ v. place.ends.0 ++ v ∷ []) version;
          path = place.ends.3;
          node_is = same ∙ ap (λ v. record { tenant = chains.tenant; chain = chain; version = v }) version;
          found = place.ends.4 ∙ ap (λ n. Some (n, here)) (sym same);
        }

    pub whole : chain_versions cells chains chain ≡ last_is.before ++ node.version ∷ place.below
    whole = place.all ∙ ap (λ vs. vs ++ place.below) last_is.above_is ∙ append_assoc last_is.before (node.version ∷ []) place.below

    module _ (stands : HoldsChains cells chains) (known : chain < length chains.heads) where
      each_before : EachAbove node.version.prepared.stamp last_is.before
      each_before = Falls-before last_is.before node.version place.below (subst Falls whole (stands.falling chain known))

      pub found_at : node.version.prepared.stamp ≡ stamp → at_stamp (chain_versions cells chains chain) stamp ≡ Some node.version.prepared
      found_at same = ap (λ vs. at_stamp vs stamp) whole ∙ its_stamp last_is.before (node.version ∷ place.below) stamp node.version place.below (subst (λ s. EachAbove s last_is.before) same each_before) refl same

      pub found_other : node.version.prepared.stamp ≢ stamp → at_stamp (chain_versions cells chains chain) stamp ≡ None
      found_other other =
          let near : stamp ≤ node.version.prepared.stamp = none_below-last stamp last_is.before node.version (subst (NoneBelow stamp) last_is.above_is place.not_less) in
          let more : stamp < node.version.prepared.stamp = omega (arith, other) in
          let each : EachAbove stamp place.above =
          subst (EachAbove stamp) (sym last_is.above_is) (each-push stamp last_is.before node.version (each_less node.version.prepared.stamp stamp last_is.before each_before more) more) in
          ap (λ vs. at_stamp vs stamp) place.all ∙ missing_stamp place.above place.below stamp (subst Falls place.all (stands.falling chain known)) each place.less

  pub found_none : (place : IsPlace cells chains chain stamp None here) → HoldsChains cells chains → chain < length chains.heads → at_stamp (chain_versions cells chains chain) stamp ≡ None
  found_none place stands known =
      let all : chain_versions cells chains chain ≡ place.below = place.all ∙ ap (λ vs. vs ++ place.below) place.ends.0 in
      ap (λ vs. at_stamp vs stamp) all ∙ missing_stamp [] place.below stamp (subst Falls all (stands.falling chain known)) tt place.less

-- the same for any end of the place
module _ (cells : Cells) (chains : Heads) (chain stamp : ℕ) (last here : Option ℕ) (place : IsPlace cells chains chain stamp last here) (stands : HoldsChains cells chains) (known : chain < length chains.heads) where
  pub lacks_all : last ≡ None → at_stamp (chain_versions cells chains chain) stamp ≡ None
  lacks_all none = found_none cells chains chain stamp here (subst (λ l. IsPlace cells chains chain stamp l here) none place) stands known

  module _ (slot : ℕ) (node : Node) (is : last ≡ Some slot) (read : entry cells slot ≡ Some (node, next_beside cells slot)) where
    at_slot : IsPlace cells chains chain stamp (Some slot) here
    at_slot = subst (λ l. IsPlace cells chains chain stamp l here) is place

    pub has : node.version.prepared.stamp ≡ stamp → at_stamp (chain_versions cells chains chain) stamp ≡ Some node.version.prepared
    has same = found_at cells chains chain stamp here slot node at_slot read stands known same

    pub lacks : node.version.prepared.stamp ≢ stamp → at_stamp (chain_versions cells chains chain) stamp ≡ None
    lacks other = found_other cells chains chain stamp here slot node at_slot read stands known other

-- the last slot is live
pub last_live : (cells : Cells) (chains : Heads) (chain stamp : ℕ) (last here : Option ℕ) → IsPlace cells chains chain stamp last here → (slot : ℕ) → last ≡ Some slot → IsSome (entry cells slot)
last_live cells chains chain stamp last here place slot is = let there = subst (λ l. IsPlace cells chains chain stamp l here) is place in ap is_some there.ends.4

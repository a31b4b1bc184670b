-- For `Chains::near` and `seek_from`. The search for the place of a stamp.
use Rattle.std.proofs.Common.{◌≡◌, ℕ, ◌<◌, ◌≤◌, ◌==◌, ◌&&◌, not, nat_lt, Bool, true, false, List, [], ◌∷◌, ◌++◌, length, Option, Some, None, is_some, refl, sym, ap, subst, ◌∙◌, arith, append_assoc, length-append}
use Rattle.std.proofs.lemmas.Bool.{eqb-true, ltb-false}
use Rattle.version_arena.specs.Arena.{entry, beside, next_beside}
use Rattle.version_chain.specs.Node.{Node}
use Rattle.version_chain.specs.declared.version.Version.{Version}
use Rattle.version_chain.specs.Heads.{Heads, head}
use Rattle.version_chain.specs.Chain.{Cells, HoldsChains, chain_versions}
use Rattle.version_chain.specs.Listed.{node_at, node_in}
use Rattle.version_chain.specs.Place.{EndsAt, NoneBelow, IsPlace, IsNear, IsLiveSlot, is_near_node, slot_after}
use Rattle.version_chain.proofs.Listing.{first_of, second_of}
use Rattle.version_chain.proofs.Paths.{ends-path, NoneBelow-push}
use Rattle.version_chain.proofs.Slots.{placed}
use Rattle.version_chain.proofs.Walks.{At, Read, versions-short, at_end}

-- no version up to the slot `last` is below the stamp
pub record Reached (cells : Cells) (chains : Heads) (chain stamp : ℕ) (last here : Option ℕ) : Type 0 where
  pub above : List Version
  pub at : At cells chains.tenant chain here
  pub all : chain_versions cells chains chain ≡ above ++ at.rest
  pub ends : EndsAt cells chains.tenant chain (head chains chain) above last here
  pub not_less : NoneBelow stamp above

module _ (cells : Cells) (chains : Heads) (chain stamp : ℕ) where
  pub reached_head : (last here : Option ℕ) → HoldsChains cells chains → chain < length chains.heads → last ≡ None → here ≡ head chains chain → Reached cells chains chain stamp last here
  reached_head last here stands known none first =
      rw (none, first) record {
        above = [];
        at = record { rest = chain_versions cells chains chain; chained = stands.chained chain known; short = versions-short cells chains chain stands known };
        all = refl;
        ends = (refl, refl);
        not_less = tt;
      }

  pub reached_next : (last here : Option ℕ) (slot : ℕ) (node : Node) (reached : Reached cells chains chain stamp last here) → here ≡ Some slot → Read cells chains.tenant chain slot reached.at.rest node → stamp ≤ node.version.prepared.stamp
      → Reached cells chains chain stamp (Some slot) (next_beside cells slot)
  reached_next last here slot node reached at read more =
      let path = ends-path cells chains.tenant chain (head chains chain) reached.above last here reached.ends in
      let longer = ap length read.is in
      let short = reached.at.short in
      let found : entry cells slot ≡ Some (record { tenant = chains.tenant; chain = chain; version = node.version }, next_beside cells slot) = read.found ∙ ap (λ n. Some (n, next_beside cells slot)) read.node_is in
      record {
        above = reached.above ++ node.version ∷ [];
        at = record { rest = read.later; chained = read.chained; short = omega arith };
        all = reached.all ∙ ap (λ vs. reached.above ++ vs) read.is ∙ sym (append_assoc reached.above (node.version ∷ []) read.later);
        ends = (reached.above, node.version, refl, rw (← at) path, found);
        not_less = NoneBelow-push stamp reached.above node.version reached.not_less more;
      }

  pub place_at : (last here : Option ℕ) (slot : ℕ) (node : Node) (reached : Reached cells chains chain stamp last here) → Read cells chains.tenant chain slot reached.at.rest node → node.version.prepared.stamp < stamp → IsPlace cells chains chain stamp last here
  place_at last here slot node reached read less =
      record { above = reached.above; below = reached.at.rest; all = reached.all; ends = reached.ends; goes_on = reached.at.chained; not_less = reached.not_less; less = rw read.is less }

  pub place_end : (last here : Option ℕ) (reached : Reached cells chains chain stamp last here) → here ≡ None → IsPlace cells chains chain stamp last here
  place_end last here reached ended =
      let none = at_end cells chains.tenant chain here reached.at.rest reached.at.chained ended in
      record { above = reached.above; below = reached.at.rest; all = reached.all; ends = reached.ends; goes_on = reached.at.chained; not_less = reached.not_less; less = rw none tt }

-- ---- a search that begins at a slot of the chain

NoneBelow-less : (stamp least : ℕ) (above : List Version) → stamp ≤ least → NoneBelow least above → NoneBelow stamp above
NoneBelow-less stamp least [] less none = tt
NoneBelow-less stamp least (version ∷ above) less none = (omega (arith, none.0), NoneBelow-less stamp least above less none.1)

not_true : (b : Bool) → not b ≡ true → b ≡ false
not_true true is = sym is
not_true false is = refl

-- what a slot holds that is near
pub record Near (cells : Cells) (tenant chain stamp slot : ℕ) : Type 0 where
  pub node : Node
  pub held : entry cells slot ≡ Some (node, next_beside cells slot)
  pub whose : node.tenant ≡ tenant
  pub which : node.chain ≡ chain
  pub not_less : stamp ≤ node.version.prepared.stamp

pub near_held : (cells : Cells) (tenant chain stamp slot : ℕ) → is_near_node tenant chain stamp (node_in cells slot) ≡ true → Near cells tenant chain stamp slot
near_held cells tenant chain stamp slot near = go (entry cells slot) refl near
  where
    go : (e : Option (Node × Option ℕ)) → entry cells slot ≡ e → is_near_node tenant chain stamp (node_at e) ≡ true → Near cells tenant chain stamp slot
    go None is none = absurd (let g : false ≡ true = none in cc)
    go (Some cell) is there =
        let node = cell.0 in
        let least : Bool = not (nat_lt node.version.prepared.stamp stamp) in
        let rest = second_of (node.tenant == tenant) ((node.chain == chain) && least) there in
        record {
          node = node;
          held = is ∙ ap (λ next. Some (node, next)) (sym (ap beside is));
          whose = eqb-true node.tenant tenant (first_of (node.tenant == tenant) ((node.chain == chain) && least) there);
          which = eqb-true node.chain chain (first_of (node.chain == chain) least rest);
          not_less = ltb-false node.version.prepared.stamp stamp (not_true (nat_lt node.version.prepared.stamp stamp) (second_of (node.chain == chain) least rest));
        }

pub reached_near : (cells : Cells) (chains : Heads) (chain stamp slot : ℕ) → HoldsChains cells chains → chain < length chains.heads → is_near_node chains.tenant chain stamp (node_in cells slot) ≡ true → Reached cells chains chain stamp (Some slot) (next_beside cells slot)
reached_near cells chains chain stamp slot stands known near =
    let held = near_held cells chains.tenant chain stamp slot near in
    let next = next_beside cells slot in
    let at = (placed cells chains stands slot held.node next held.held held.whose).place in
    let place : IsPlace cells chains chain held.node.version.prepared.stamp (Some slot) next = subst (λ c. IsPlace cells chains c held.node.version.prepared.stamp (Some slot) next) held.which at in
    let long = ap length place.all in
    let both = length-append place.above place.below in
    let short = versions-short cells chains chain stands known in
    record {
      above = place.above;
      at = record { rest = place.below; chained = place.goes_on; short = omega (arith, long, both, short) };
      all = place.all;
      ends = place.ends;
      not_less = NoneBelow-less stamp held.node.version.prepared.stamp place.above held.not_less place.not_less;
    }

pub reached_from : (cells : Cells) (chains : Heads) (chain stamp : ℕ) (near here : Option ℕ) → HoldsChains cells chains → chain < length chains.heads → IsNear cells chains chain stamp near → here ≡ slot_after cells chains chain near → Reached cells chains chain stamp near here
reached_from cells chains chain stamp None here stands known near is = reached_head cells chains chain stamp None here stands known refl is
reached_from cells chains chain stamp (Some slot) here stands known near is = subst (λ h. Reached cells chains chain stamp (Some slot) h) (sym is) (reached_near cells chains chain stamp slot stands known near)

pub near_live : (cells : Cells) (chains : Heads) (chain stamp : ℕ) (near : Option ℕ) → IsNear cells chains chain stamp near → IsLiveSlot cells near
near_live cells chains chain stamp None near = tt
near_live cells chains chain stamp (Some slot) near = ap is_some (near_held cells chains.tenant chain stamp slot near).held

-- For `Chains::discard`. A chain without the version of a stamp, where it is not committed.
use Rattle.std.proofs.Common.{◌≡◌, ◌≢◌, ℕ, ◌+◌, ◌<◌, ◌≤◌, true, false, cond, ◌&&◌, not, List, [], ◌∷◌, ◌++◌, length, Option, Some, None, IsSomeAnd, refl, sym, ap, subst, ◌∙◌, arith, append-nil}
use Rattle.std.proofs.lemmas.Bool.{eq-eqb, ne_eqb}
use Rattle.std.proofs.lemmas.List.Elements.{filter-append}
use Rattle.version_arena.specs.Arena.{entry, next_beside}
use Rattle.version_chain.specs.Node.{Node}
use Rattle.version_chain.specs.declared.version.Version.{Version}
use Rattle.version_chain.specs.Heads.{Heads}
use Rattle.version_chain.specs.Chain.{Cells, HoldsChains, FallsBelow, Falls, chain_versions, is_open_at, without_open, IsInserted}
use Rattle.version_chain.specs.Changes.{HaveOneMore}
use Rattle.version_chain.specs.Place.{NoneBelow, StartsBelow, IsPlace}
use Rattle.version_chain.proofs.Falling.{EachAbove, Falls-before, Falls-after}
use Rattle.version_chain.proofs.Walks.{at_end, on_cell, read_cell}

-- a version that stays
pub stays : (stamp : ℕ) (version : Version) (rest : List Version) → is_open_at stamp version ≡ false → without_open stamp rest ≡ rest → without_open stamp (version ∷ rest) ≡ version ∷ rest
stays stamp version rest shut later =
    ap (λ b. cond (not b) (version ∷ without_open stamp rest) (without_open stamp rest)) shut ∙ ap (λ vs. version ∷ vs) later

other_shut : (stamp : ℕ) (version : Version) → version.prepared.stamp ≢ stamp → is_open_at stamp version ≡ false
other_shut stamp version other = ap (λ b. b && not version.committed) (ne_eqb version.prepared.stamp stamp other)

high_stay : (stamp : ℕ) (above : List Version) → EachAbove stamp above → without_open stamp above ≡ above
high_stay stamp [] each = refl
high_stay stamp (version ∷ rest) each =
    let more = each.0 in
    stays stamp version rest (other_shut stamp version (λ same. absurd (omega arith))) (high_stay stamp rest each.1)

low_stay : (bound stamp : ℕ) (below : List Version) → FallsBelow bound below → bound ≤ stamp → without_open stamp below ≡ below
low_stay bound stamp [] falls near = refl
low_stay bound stamp (version ∷ rest) falls near =
    let less = falls.0 in
    stays stamp version rest (other_shut stamp version (λ same. absurd (omega arith))) (low_stay version.prepared.stamp stamp rest falls.1 (omega arith))

from_place : (stamp : ℕ) (above : List Version) → NoneBelow (stamp + 1) above → EachAbove stamp above
from_place stamp [] none = tt
from_place stamp (version ∷ rest) none = let more = none.0 in (omega arith, from_place stamp rest none.1)

-- the open version of the stamp goes
goes : (stamp : ℕ) (above below : List Version) (version : Version) → Falls (above ++ version ∷ below) → version.prepared.stamp ≡ stamp → version.committed ≡ false → without_open stamp (above ++ version ∷ below) ≡ above ++ below
goes stamp above below version falls is unmarked =
    let p = λ (v : Version). not (is_open_at stamp v) in
    let each : EachAbove stamp above = subst (λ s. EachAbove s above) is (Falls-before above version below falls) in
    let after : FallsBelow stamp below = subst (λ s. FallsBelow s below) is (Falls-after above version below falls) in
    let test : is_open_at stamp version ≡ true = (λ i. eq-eqb version.prepared.stamp stamp is i && not (unmarked i)) in
    filter-append p above (version ∷ below)
    ∙ ap (λ vs. without_open stamp above ++ vs) (ap (λ b. cond (not b) (version ∷ without_open stamp below) (without_open stamp below)) test)
    ∙ (λ i. high_stay stamp above each i ++ low_stay stamp stamp below after (omega arith) i)

-- any other stays
none_goes : (stamp : ℕ) (above below : List Version) (version : Version) → Falls (above ++ version ∷ below) → EachAbove stamp above → version.prepared.stamp < stamp + 1 → is_open_at stamp version ≡ false
    → without_open stamp (above ++ version ∷ below) ≡ above ++ version ∷ below
none_goes stamp above below version falls each near shut =
    let p = λ (v : Version). not (is_open_at stamp v) in
    let after = Falls-after above version below falls in
    filter-append p above (version ∷ below)
    ∙ (λ i. high_stay stamp above each i ++ stays stamp version below shut (low_stay version.prepared.stamp stamp below after (omega arith)) i)

module _ (cells : Cells) (chains : Heads) (chain stamp : ℕ) (last here : Option ℕ) (stands : HoldsChains cells chains) (known : chain < length chains.heads) (place : IsPlace cells chains chain (stamp + 1) last here) where
  -- where no version stands behind the place, all stay
  pub all_stay : here ≡ None → chain_versions cells chains chain ≡ without_open stamp (chain_versions cells chains chain)
  all_stay ended =
      let none = at_end cells chains.tenant chain here place.below place.goes_on ended in
      let all : chain_versions cells chains chain ≡ place.above = place.all ∙ ap (λ vs. place.above ++ vs) none ∙ append-nil place.above in
      all ∙ sym (high_stay stamp place.above (from_place stamp place.above place.not_less)) ∙ ap (without_open stamp) (sym all)

  module _ (slot : ℕ) (node : Node) (at : here ≡ Some slot) (found : entry cells slot ≡ Some (node, next_beside cells slot)) where
    -- where the version behind it is none to go, too
    pub this_stays : is_open_at stamp node.version ≡ false → chain_versions cells chains chain ≡ without_open stamp (chain_versions cells chains chain)
    this_stays shut =
        let on = on_cell cells chains.tenant chain slot here place.below place.goes_on at in
        let read = read_cell cells chains.tenant chain slot place.below node on found in
        let all : chain_versions cells chains chain ≡ place.above ++ node.version ∷ read.later = place.all ∙ ap (λ vs. place.above ++ vs) read.is in
        let falls : Falls (place.above ++ node.version ∷ read.later) = subst Falls all (stands.falling chain known) in
        let near : node.version.prepared.stamp < stamp + 1 = subst (StartsBelow (stamp + 1)) read.is place.less in
        all
        ∙ sym (none_goes stamp place.above read.later node.version falls (from_place stamp place.above place.not_less) near shut)
        ∙ ap (without_open stamp) (sym all)

    -- it is one of the tenant's
    pub this_own : node.tenant ≡ chains.tenant
    this_own =
        let on = on_cell cells chains.tenant chain slot here place.below place.goes_on at in
        ap (λ (n : Node). n.tenant) (read_cell cells chains.tenant chain slot place.below node on found).node_is

-- where it goes, the others are left
module _ (cells next_cells : Cells) (chains next_chains : Heads) (chain stamp slot : ℕ) (node : Node) (stands : HoldsChains cells chains) (known : chain < length chains.heads) (found : entry cells slot ≡ Some (node, next_beside cells slot))
    (removed : IsSomeAnd (entry cells slot) (λ cell. HaveOneMore next_cells next_chains cells chains chain cell.0.version)) where
  pub one_more : HaveOneMore next_cells next_chains cells chains chain node.version
  one_more = subst (λ e. IsSomeAnd e (λ cell. HaveOneMore next_cells next_chains cells chains chain cell.0.version)) found removed

  inserted : IsInserted (chain_versions next_cells next_chains chain) (chain_versions cells chains chain) node.version
  inserted = one_more.inserted

  pub others_left : node.version.prepared.stamp ≡ stamp → node.version.committed ≡ false → chain_versions next_cells next_chains chain ≡ without_open stamp (chain_versions cells chains chain)
  others_left is unmarked =
      inserted.old_is
      ∙ sym (goes stamp inserted.above inserted.below node.version (subst Falls inserted.new_is (stands.falling chain known)) is unmarked)
      ∙ ap (without_open stamp) (sym inserted.new_is)

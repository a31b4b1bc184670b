-- For `Chains::cut_below`. A chain is cut from its end.
use Rattle.std.proofs.Common.{◌≡◌, ℕ, ◌+◌, ◌<◌, ◌≤◌, Bool, nat_lt, if◌then◌else◌, List, [], ◌∷◌, ◌++◌, length, Option, Some, None, IsSomeAnd, refl, sym, ap, subst, ◌∙◌, arith, append-nil}
use Rattle.std.proofs.lemmas.Bool.{lt-ltb, le-ltb}
use Rattle.version_arena.specs.Arena.{entry}
use Rattle.version_chain.specs.declared.version.Version.{Version}
use Rattle.version_chain.specs.Heads.{Heads}
use Rattle.version_chain.specs.Chain.{Cells, HoldsChains, chain_versions, not_below, IsInserted}
use Rattle.version_chain.specs.Changes.{ChangesChain, GivesUp, HaveOneMore}
use Rattle.version_chain.specs.Discarded.{FreesOnly}
use Rattle.version_chain.specs.Listed.{Lists}
use Rattle.version_chain.specs.Place.{NoneBelow, StartsBelow, IsPlace}
use Rattle.version_chain.proofs.Changing.{changes_next, changes_none, gives_none}
use Rattle.version_chain.proofs.Discarding.{freed_nodes, none_come}
use Rattle.version_chain.proofs.Falling.{length-inserted}
use Rattle.version_chain.proofs.Listing.{lists_left}
use Rattle.version_chain.proofs.Walks.{at_end, on_cell}

not_below-keeps : (floor : ℕ) (version : Version) (rest : List Version) → floor ≤ version.prepared.stamp → not_below floor (version ∷ rest) ≡ version ∷ not_below floor rest
not_below-keeps floor version rest more = ap (λ (b : Bool). if b then not_below floor rest else version ∷ not_below floor rest) (le-ltb version.prepared.stamp floor more)

not_below-drops : (floor : ℕ) (version : Version) (rest : List Version) → version.prepared.stamp < floor → not_below floor (version ∷ rest) ≡ not_below floor rest
not_below-drops floor version rest less = ap (λ (b : Bool). if b then not_below floor rest else version ∷ not_below floor rest) (lt-ltb version.prepared.stamp floor less)

not_below-all : (floor : ℕ) (versions : List Version) → NoneBelow floor versions → not_below floor versions ≡ versions
not_below-all floor [] none = refl
not_below-all floor (version ∷ rest) none = not_below-keeps floor version rest none.0 ∙ ap (λ vs. version ∷ vs) (not_below-all floor rest none.1)

skip : (floor : ℕ) (above below : List Version) (version : Version) → version.prepared.stamp < floor → not_below floor (above ++ version ∷ below) ≡ not_below floor (above ++ below)
skip floor [] below version less = not_below-drops floor version below less
skip floor (first ∷ above) below version less =
    ap (λ vs. if nat_lt first.prepared.stamp floor then vs else first ∷ vs) (skip floor above below version less)

not_below-removed : (floor : ℕ) (old new : List Version) (version : Version) → IsInserted new old version → version.prepared.stamp < floor → (not_below floor new ≡ not_below floor old) × (length new + 1 ≡ length old)
not_below-removed floor old new version inserted less = (
  ap (not_below floor) inserted.old_is ∙ sym (skip floor inserted.above inserted.below version less) ∙ ap (not_below floor) (sym inserted.new_is),
  (let one = ap length inserted.new_is in let two = ap length inserted.old_is in omega (arith, length-inserted inserted.above inserted.below version)),
)

-- how far the cut has come
pub record Cut (old_cells cells : Cells) (old chains : Heads) (chain floor : ℕ) (last here : Option ℕ) : Type 0 where
  pub freed : ℕ
  pub changed : ChangesChain old_cells old cells chains chain
  pub given_up : GivesUp freed old_cells old cells chains
  pub place : IsPlace cells chains chain floor last here
  pub kept : not_below floor (chain_versions cells chains chain) ≡ not_below floor (chain_versions old_cells old chain)
  pub listed : Lists old_cells old → Lists cells chains
  pub counted : freed + length (chain_versions cells chains chain) ≡ length (chain_versions old_cells old chain)

pub cut_done : (old_cells cells : Cells) (old chains : Heads) (chain floor : ℕ) (last here : Option ℕ) → Cut old_cells cells old chains chain floor last here → here ≡ None → chain_versions cells chains chain ≡ not_below floor (chain_versions old_cells old chain)
cut_done old_cells cells old chains chain floor last here cut ended =
    let none = at_end cells chains.tenant chain here cut.place.below cut.place.goes_on ended in
    let all : chain_versions cells chains chain ≡ cut.place.above = cut.place.all ∙ ap (λ vs. cut.place.above ++ vs) none ∙ append-nil cut.place.above in
    sym (not_below-all floor (chain_versions cells chains chain) (subst (NoneBelow floor) (sym all) cut.place.not_less)) ∙ cut.kept

pub cut_begun : (cells : Cells) (chains : Heads) (chain floor : ℕ) (last here : Option ℕ) → HoldsChains cells chains → IsPlace cells chains chain floor last here → Cut cells cells chains chains chain floor last here
cut_begun cells chains chain floor last here stands place = record {
  freed = 0;
  changed = changes_none cells chains chain stands;
  given_up = gives_none cells chains;
  place = place;
  kept = refl;
  listed = λ lists. lists;
  counted = omega arith;
}

module _ (old_cells cells next_cells : Cells) (old chains next_chains : Heads) (chain floor : ℕ) (last here next : Option ℕ) (slot : ℕ) (cut : Cut old_cells cells old chains chain floor last here) (at : here ≡ Some slot) where
  pub cut_step : ChangesChain cells chains next_cells next_chains chain → IsSomeAnd (entry cells slot) (λ cell. HaveOneMore next_cells next_chains cells chains chain cell.0.version) → FreesOnly cells next_cells slot → next_chains.kept ≡ chains.kept
      → IsPlace next_cells next_chains chain floor last next → Cut old_cells next_cells old next_chains chain floor last next
  cut_step changed removed freed listed place =
      let on = on_cell cells chains.tenant chain slot here cut.place.below cut.place.goes_on at in
      let more : HaveOneMore next_cells next_chains cells chains chain on.version = subst (λ e. IsSomeAnd e (λ cell. HaveOneMore next_cells next_chains cells chains chain cell.0.version)) on.found removed in
      let less : on.version.prepared.stamp < floor = subst (StartsBelow floor) on.is cut.place.less in
      let left = not_below-removed floor (chain_versions cells chains chain) (chain_versions next_cells next_chains chain) on.version more.inserted less in
      let fewer = left.1 in
      record {
        freed = cut.freed + 1;
        changed = changes_next old_cells cells next_cells old chains next_chains chain cut.changed changed;
        given_up = record { used = omega (arith, more.used, cut.given_up.used); none = λ e. absurd (omega (arith, e)) };
        place = place;
        kept = left.0 ∙ cut.kept;
        listed = λ lists. lists_left cells next_cells chains next_chains changed.own.shape.tenant listed (none_come cells next_cells chains.tenant (freed_nodes cells next_cells slot freed)) (cut.listed lists);
        counted = omega (arith, fewer, cut.counted);
      }

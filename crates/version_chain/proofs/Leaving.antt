-- For `Chains::latest_without`. The latest committed version of a chain without one of its versions.
use Rattle.std.proofs.Common.{◌≡◌, ℕ, ◌<◌, ◌≤◌, true, false, List, ◌∷◌, ◌++◌, length, Option, Some, None, IsSome, is_some, refl, sym, ap, subst, ◌∙◌, arith, length-append}
use Rattle.version_arena.specs.Arena.{entry, next_beside}
use Rattle.version_chain.specs.Node.{Node}
use Rattle.version_chain.specs.declared.version.Version.{Version}
use Rattle.version_chain.specs.Heads.{Heads, latest_slot}
use Rattle.version_chain.specs.Chain.{Cells, IsPath, Falls, KeepsLatest, HoldsChains, chain_versions}
use Rattle.version_chain.specs.Place.{IsPlace, KeepsLatestBut, is_at, versions_from}
use Rattle.version_chain.proofs.Falling.{EachAbove, Falls-before}
use Rattle.version_chain.proofs.Latest.{first_committed, first_below, first_stays, keeps_same}
use Rattle.version_chain.proofs.Removing.{read_here}
use Rattle.version_chain.proofs.Walks.{Read, follow-chain, on_cell, versions-short}

pub here_live : (cells : Cells) (chains : Heads) (chain stamp here : ℕ) (last : Option ℕ) → IsPlace cells chains chain stamp last (Some here) → IsSome (entry cells here)
here_live cells chains chain stamp here last place = ap is_some (on_cell cells chains.tenant chain here (Some here) place.below place.goes_on refl).found

same_rest : (v w : Version) (vs ws : List Version) → v ∷ vs ≡ w ∷ ws → vs ≡ ws
same_rest v w vs ws e = cc

module _ (cells : Cells) (chains : Heads) (chain here : ℕ) (node : Node) (stands : HoldsChains cells chains) (known : chain < length chains.heads) (found : entry cells here ≡ Some (node, next_beside cells here)) where
  module _ (stamp : ℕ) (last : Option ℕ) (place : IsPlace cells chains chain stamp last (Some here)) where
    abbrev read : Read cells chains.tenant chain here place.below node
    read = read_here cells chains chain stamp last (Some here) here node place refl found

    abbrev later : List Version
    later = read.later

    whole : chain_versions cells chains chain ≡ place.above ++ node.version ∷ later
    whole = place.all ∙ ap (λ vs. place.above ++ vs) read.is

    short : length later ≤ length cells
    short =
        let all = ap length whole in
        omega (arith, all, length-append place.above (node.version ∷ later), versions-short cells chains chain stands known)

    -- the versions below it
    pub rest_from : (rest : List Version) × IsPath cells chains.tenant chain (next_beside cells here) rest None × (length rest ≤ length cells)
    rest_from = (later, read.chained, short)

    from_is : versions_from cells (next_beside cells here) ≡ later
    from_is = follow-chain cells chains.tenant chain (next_beside cells here) later (length cells) read.chained short

    above_it : EachAbove node.version.prepared.stamp place.above
    above_it = Falls-before place.above node.version later (subst Falls whole (stands.falling chain known))

    rest_is : (version : Version) (rest : List Version) → place.below ≡ version ∷ rest → rest ≡ later
    rest_is version rest is = same_rest version node.version rest later (sym is ∙ read.is)

  -- where it is the latest
  pub but_below : is_at (first_committed (chain_versions cells chains chain)) node.version.prepared.stamp ≡ true → (kept : Option ℕ) → KeepsLatest cells chains.tenant chain (versions_from cells (next_beside cells here)) kept → KeepsLatestBut cells chains chain here kept
  but_below at kept keeps stamp last place version rest is =
      keeps_same cells chains.tenant chain (versions_from cells (next_beside cells here)) (place.above ++ rest) kept
      (ap (λ vs. first_committed (place.above ++ vs)) (rest_is stamp last place version rest is)
      ∙ first_below place.above (later stamp last place) node.version (above_it stamp last place) (ap (λ vs. is_at (first_committed vs) node.version.prepared.stamp) (sym (whole stamp last place)) ∙ at)
      ∙ ap first_committed (sym (from_is stamp last place)))
      keeps

  -- and where it is not
  pub but_here : is_at (first_committed (chain_versions cells chains chain)) node.version.prepared.stamp ≡ false → KeepsLatestBut cells chains chain here (latest_slot chains chain)
  but_here other stamp last place version rest is =
      keeps_same cells chains.tenant chain (chain_versions cells chains chain) (place.above ++ rest) (latest_slot chains chain)
      (ap (λ vs. first_committed (place.above ++ vs)) (rest_is stamp last place version rest is)
      ∙ first_stays place.above (later stamp last place) node.version (ap (λ vs. is_at (first_committed vs) node.version.prepared.stamp) (sym (whole stamp last place)) ∙ other)
      ∙ ap first_committed (sym (whole stamp last place)))
      (stands.latest chain known)

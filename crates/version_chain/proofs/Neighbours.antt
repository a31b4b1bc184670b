-- For the callers of `Chains` whose tenants share a block. The chains of another tenant stand where its cells are kept.
use Rattle.std.proofs.Common.{◌≡◌, ◌≢◌, ℕ, ◌<◌, ◌==◌, Bool, true, false, if◌then◌else◌, List, [], ◌∷◌, length, cond, count_by, sum_by, Option, Some, None, is_some, refl, sym, ap, ◌∙◌}
use Rattle.std.proofs.lemmas.Bool.{eq-eqb}
use Rattle.version_arena.specs.Arena.{entry}
use Rattle.version_chain.specs.Node.{Node}
use Rattle.version_chain.specs.declared.version.Version.{Version}
use Rattle.version_chain.specs.Heads.{Heads, head, latest_slot}
use Rattle.version_chain.specs.Chain.{Cells, IsPath, HoldsChains, chain_versions, follow, is_of_tenant, cell_of, OthersKept}
use Rattle.version_chain.proofs.Latest.{StillHolds, keeps_as, keeps_held}
use Rattle.version_chain.proofs.Others.{ones}
use Rattle.version_chain.proofs.Sums.{sum_by-same}
use Rattle.version_chain.proofs.Walks.{follow-chain, versions-short}

pub own_cell : (tenant : ℕ) (cell : Node × Option ℕ) → cell.0.tenant ≡ tenant → cell_of tenant (Some cell) ≡ Some cell
own_cell tenant cell whose = ap (λ (b : Bool). if b then Some cell else None) (eq-eqb cell.0.tenant tenant whose)

pub from_cell : (tenant : ℕ) (held : Option (Node × Option ℕ)) (cell : Node × Option ℕ) → cell_of tenant held ≡ Some cell → held ≡ Some cell
from_cell tenant None cell is = is
from_cell tenant (Some other) cell is = by_test (other.0.tenant == tenant) is
  where
    by_test : (b : Bool) → (if b then Some other else None) ≡ Some cell → Some other ≡ Some cell
    by_test true is = is
    by_test false is = absurd cc

abbrev one_if : Bool → ℕ
one_if b = cond b 1 0

ones_of : (tenant : ℕ) (held : Option (Node × Option ℕ)) → ones tenant held ≡ one_if (is_some (cell_of tenant held))
ones_of tenant None = refl
ones_of tenant (Some cell) = by_test (cell.0.tenant == tenant)
  where
    by_test : (b : Bool) → one_if b ≡ one_if (is_some (if b then Some cell else None))
    by_test true = refl
    by_test false = refl

module _ (old_cells new_cells : Cells) (tenant : ℕ) (kept : OthersKept old_cells new_cells tenant) (other : Heads) (different : other.tenant ≢ tenant) (stands : HoldsChains old_cells other) where
  path_kept : (chain : ℕ) (from : Option ℕ) (chained : List Version) (to : Option ℕ) → IsPath old_cells other.tenant chain from chained to → IsPath new_cells other.tenant chain from chained to
  path_kept chain from [] to path = path
  path_kept chain from (version ∷ rest) to path =
      let there = kept.cells other.tenant path.0 different ∙ ap (cell_of other.tenant) path.3 ∙ own_cell other.tenant (record { tenant = other.tenant; chain = chain; version = version }, path.1) refl in
      (path.0, path.1, path.2, from_cell other.tenant (entry new_cells path.0) _ there, path_kept chain path.1 rest to path.4)

  pub versions_kept : (chain : ℕ) → chain < length other.heads → chain_versions new_cells other chain ≡ chain_versions old_cells other chain
  versions_kept chain known =
      ap (λ n. follow new_cells n (head other chain)) kept.long
      ∙ follow-chain new_cells other.tenant chain (head other chain) (chain_versions old_cells other chain) (length old_cells) (path_kept chain (head other chain) (chain_versions old_cells other chain) None (stands.chained chain known)) (versions-short old_cells other chain stands known)

  held_kept : (chain : ℕ) → StillHolds old_cells new_cells other.tenant chain
  held_kept chain slot version next held =
      let there = kept.cells other.tenant slot different ∙ ap (cell_of other.tenant) held ∙ own_cell other.tenant (record { tenant = other.tenant; chain = chain; version = version }, next) refl in
      (version, next, refl, from_cell other.tenant (entry new_cells slot) _ there)

  count_kept : count_by (is_of_tenant other.tenant) new_cells ≡ count_by (is_of_tenant other.tenant) old_cells
  count_kept = sum_by-same (ones other.tenant) (ones other.tenant) None old_cells new_cells kept.long
      (λ slot within. ones_of other.tenant (entry new_cells slot) ∙ ap (λ cell. one_if (is_some cell)) (kept.cells other.tenant slot different) ∙ sym (ones_of other.tenant (entry old_cells slot)))

  lengths_kept : sum_by (λ from. length (follow new_cells (length new_cells) from)) other.heads ≡ sum_by (λ from. length (follow old_cells (length old_cells) from)) other.heads
  lengths_kept = sum_by-same (λ from. length (follow old_cells (length old_cells) from)) (λ from. length (follow new_cells (length new_cells) from)) None other.heads other.heads refl (λ chain known. ap length (versions_kept chain known))

  pub Stands-kept : HoldsChains new_cells other
  Stands-kept =
      record {
        chained = λ chain known. (let same = versions_kept chain known in rw same (path_kept chain (head other chain) (chain_versions old_cells other chain) None (stands.chained chain known)));
        falling = λ chain known. (let same = versions_kept chain known in rw same (stands.falling chain known));
        counted = stands.counted ∙ sym lengths_kept;
        owned = count_kept ∙ stands.owned;
        fits = stands.fits;
        long = stands.long;
        latest = λ chain known.
            (let same = versions_kept chain known in
            keeps_as new_cells other.tenant other.tenant chain (chain_versions old_cells other chain) (chain_versions new_cells other chain) (latest_slot other chain) (latest_slot other chain) refl (sym same) refl
            (keeps_held old_cells new_cells other.tenant chain (chain_versions old_cells other chain) (latest_slot other chain) (held_kept chain) (stands.latest chain known)));
      }

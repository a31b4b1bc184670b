-- For the callers of `Chains::open`. Chains that have no version yet.
use Rattle.std.proofs.Common.{◌≡◌, ℕ, zero, suc, ◌*◌, ◌<◌, List, [], length, replicate, get_or, count_by, Option, None, refl, sym, ap, subst, ◌∙◌, arith}
use Rattle.std.specs.Prelude.{slice_get}
use native.Mathlib.Nat.{mul-zero}
use Rattle.std.proofs.lemmas.List.{get_or-replicate, length-replicate}
use Rattle.std.proofs.lemmas.List.Folds.{sum_by-replicate}
use Rattle.version_chain.specs.declared.version.Version.{Version}
use Rattle.version_chain.specs.Heads.{Heads, head, latest_slot, no_versions}
use Rattle.version_chain.specs.Chain.{Cells, KeepsLatest, HoldsChains, chain_versions, committed_records, follow, is_of_tenant}
use Rattle.version_chain.specs.Listed.{Lists}
use Rattle.version_chain.proofs.Listing.{lists_none}

follow-none : (cells : Cells) (count : ℕ) → follow cells count None ≡ []
follow-none cells zero = refl
follow-none cells (suc count) = refl

mul-zero_of : (count n : ℕ) → n ≡ 0 → count * n ≡ 0
mul-zero_of count n none = ap (λ k. count * k) none ∙ mul-zero count

-- where no version is known, none is committed
keeps_none : (cells : Cells) (tenant chain : ℕ) (vs : List Version) (kept : Option ℕ) → vs ≡ [] → kept ≡ None → KeepsLatest cells tenant chain vs kept
keeps_none cells tenant chain vs kept none unknown = subst (λ k. KeepsLatest cells tenant chain vs k) (sym unknown) (ap (λ us. slice_get (committed_records us) 0) none)

module _ (cells : Cells) (chains : Heads) (count : ℕ) (empty : chains.heads ≡ replicate count None) where
  head-empty : (chain : ℕ) → chain < count → head chains chain ≡ None
  head-empty chain known = ap (λ hs. get_or hs chain None) empty ∙ get_or-replicate count chain None None known

  versions-empty : (chain : ℕ) → chain < count → chain_versions cells chains chain ≡ []
  versions-empty chain known = ap (follow cells (length cells)) (head-empty chain known) ∙ follow-none cells (length cells)

Stands-empty : (cells : Cells) (chains : Heads) (count : ℕ) → chains.heads ≡ replicate count None → chains.latest ≡ replicate count None → chains.used ≡ 0 → count_by (is_of_tenant chains.tenant) cells ≡ 0 → HoldsChains cells chains
Stands-empty cells chains count empty unknown unused none =
    let long : length chains.heads ≡ count = ap length empty ∙ length-replicate count None in
    let at : (chain : ℕ) → chain < length chains.heads → head chains chain ≡ None = λ chain known. head-empty cells chains count empty chain (omega arith) in
    let no_versions : (chain : ℕ) → chain < length chains.heads → chain_versions cells chains chain ≡ [] = λ chain known. versions-empty cells chains count empty chain (omega arith) in
    let no_length = ap length (follow-none cells (length cells)) in
    record {
      chained = λ chain known. (let none_there = no_versions chain known in rw none_there (at chain known));
      falling = λ chain known. (let none_there = no_versions chain known in rw none_there tt);
      owned = none ∙ sym unused;
      fits = omega (arith, unused);
      long = ap length unknown ∙ length-replicate count None ∙ sym long;
      latest = λ chain known.
          keeps_none cells chains.tenant chain (chain_versions cells chains chain) (latest_slot chains chain) (no_versions chain known)
          (ap (λ hs. get_or hs chain None) unknown ∙ get_or-replicate count chain None None (omega (arith, known, long)));
      counted = rw empty (omega (arith, unused, sum_by-replicate (λ from. length (follow cells (length cells) from)) count None, mul-zero_of count (length (follow cells (length cells) None)) no_length));
    }

-- they stand in any block with no version of their tenant, and no chain has a version
module _ (cells : Cells) (tenant share chains : ℕ) where
  pub none_stand : count_by (is_of_tenant tenant) cells ≡ 0 → HoldsChains cells (no_versions tenant share chains)
  none_stand none = Stands-empty cells (no_versions tenant share chains) chains refl refl refl none

  pub none_listed : count_by (is_of_tenant tenant) cells ≡ 0 → Lists cells (no_versions tenant share chains)
  none_listed none = lists_none cells (no_versions tenant share chains) refl none

  pub none_there : (chain : ℕ) → chain < chains → chain_versions cells (no_versions tenant share chains) chain ≡ []
  none_there = versions-empty cells (no_versions tenant share chains) chains refl

-- For `Chains`: link, unlink and mark. One chain gets other versions, and the rest of the cells stand as they did.
use Rattle.std.proofs.Common.{◌≡◌, ◌≢◌, ◌⊎◌, inl, inr, ℕ, zero, suc, ◌+◌, ◌<◌, ◌≤◌, List, length, Option, None, count_by, sum_by, refl, sym, ap, subst, ◌∙◌, arith}
use Rattle.std.proofs.lemmas.List.Sums.{get_or-le-sum_by, count_by-le-length}
use Rattle.version_chain.specs.declared.version.Version.{Version}
use Rattle.version_chain.specs.Heads.{Heads, head, latest_slot}
use Rattle.version_chain.specs.Chain.{Cells, IsPath, Falls, KeepsLatest, HoldsChains, chain_versions, follow, is_of_tenant, SameShape, OtherChainsKept}
use Rattle.version_chain.proofs.Latest.{LatestKept, keeps_as, keeps_held}
use Rattle.version_chain.proofs.Sums.{sum_by-replaced}
use Rattle.version_chain.proofs.Walks.{follow-chain, versions-short}

pub same_or_not : (a b : ℕ) → (a ≡ b) ⊎ (a ≢ b)
same_or_not zero zero = inl refl
same_or_not zero (suc b) = inr (λ same. absurd (omega arith))
same_or_not (suc a) zero = inr (λ same. absurd (omega arith))
same_or_not (suc a) (suc b) = elim (same_or_not a b) [ inl same ↦ inl (omega arith) | inr other ↦ inr (λ same. other (omega arith)) ]

-- the same chains with other heads, so many cells, and other latest versions
abbrev pub with_used : Heads → ℕ → List (Option ℕ) → List (Option ℕ) → Heads
with_used chains used heads latest = record { tenant = chains.tenant; share = chains.share; used = used; heads = heads; latest = latest; kept = chains.kept }

-- the chain holds the new versions, and each other chain lies where it did
pub record Replaced (old_cells new_cells : Cells) (old new : Heads) (chain : ℕ) (now : List Version) : Type 0 where
  pub shape : SameShape old new
  pub long : length new_cells ≡ length old_cells
  pub used : new.used + length (chain_versions old_cells old chain) ≡ old.used + length now
  pub fits : new.used ≤ new.share
  pub other_heads : (other : ℕ) → other ≢ chain → head new other ≡ head old other
  pub other_paths : (other : ℕ) → other ≢ chain → (chained : List Version) → IsPath old_cells old.tenant other (head old other) chained None → IsPath new_cells old.tenant other (head old other) chained None
  pub path : IsPath new_cells old.tenant chain (head new chain) now None
  pub falls : Falls now
  pub counted : count_by (is_of_tenant old.tenant) new_cells + length (chain_versions old_cells old chain) ≡ count_by (is_of_tenant old.tenant) old_cells + length now

module _ (old_cells new_cells : Cells) (old new : Heads) (chain : ℕ) (now : List Version) (stands : HoldsChains old_cells old) (known : chain < length old.heads) (replaced : Replaced old_cells new_cells old new chain now) where
  others_kept : (other : ℕ) → other < length old.heads → other ≢ chain → chain_versions new_cells new other ≡ chain_versions old_cells old other
  others_kept other inside different =
      ap (λ n. follow new_cells n (head new other)) replaced.long
      ∙ ap (follow new_cells (length old_cells)) (replaced.other_heads other different)
      ∙ follow-chain new_cells old.tenant other (head old other) (chain_versions old_cells old other) (length old_cells) (replaced.other_paths other different (chain_versions old_cells old other) (stands.chained other inside)) (versions-short old_cells old other stands inside)

  now_is : chain_versions new_cells new chain ≡ now
  now_is =
      let before = get_or-le-sum_by (λ from. length (follow old_cells (length old_cells) from)) old.heads chain None known in
      follow-chain new_cells old.tenant chain (head new chain) now (length new_cells) replaced.path (omega (arith, stands.counted, stands.owned, replaced.counted, before, count_by-le-length (is_of_tenant old.tenant) new_cells))

  sums : sum_by (λ from. length (follow new_cells (length new_cells) from)) new.heads + length (chain_versions old_cells old chain) ≡ sum_by (λ from. length (follow old_cells (length old_cells) from)) old.heads + length (chain_versions new_cells new chain)
  sums = sum_by-replaced (λ from. length (follow old_cells (length old_cells) from)) (λ from. length (follow new_cells (length new_cells) from)) None old.heads new.heads chain replaced.shape.long known (λ other inside different. ap length (others_kept other inside different))

  path_of : (other : ℕ) → other < length new.heads → (other ≡ chain) ⊎ (other ≢ chain) → IsPath new_cells new.tenant other (head new other) (chain_versions new_cells new other) None
  path_of other inside (inl same) = subst (λ k. IsPath new_cells new.tenant k (head new k) (chain_versions new_cells new k) None) (sym same) (rw (replaced.shape.tenant, now_is) replaced.path)
  path_of other inside (inr different) =
      let there : other < length old.heads = omega (arith, replaced.shape.long) in
      rw (replaced.shape.tenant, others_kept other there different, replaced.other_heads other different) (replaced.other_paths other different (chain_versions old_cells old other) (stands.chained other there))

  falls_of : (other : ℕ) → other < length new.heads → (other ≡ chain) ⊎ (other ≢ chain) → Falls (chain_versions new_cells new other)
  falls_of other inside (inl same) = subst (λ k. Falls (chain_versions new_cells new k)) (sym same) (rw now_is replaced.falls)
  falls_of other inside (inr different) =
      let there : other < length old.heads = omega (arith, replaced.shape.long) in
      rw (others_kept other there different) (stands.falling other there)

  latest_at : LatestKept old_cells new_cells old new chain now → (other : ℕ) → other < length new.heads → (other ≡ chain) ⊎ (other ≢ chain) → KeepsLatest new_cells new.tenant other (chain_versions new_cells new other) (latest_slot new other)
  latest_at latest other inside (inl same) =
      subst (λ k. KeepsLatest new_cells new.tenant k (chain_versions new_cells new k) (latest_slot new k)) (sym same)
      (keeps_as new_cells old.tenant new.tenant chain now (chain_versions new_cells new chain) (latest_slot new chain) (latest_slot new chain) (sym replaced.shape.tenant) (sym now_is) refl latest.here)
  latest_at latest other inside (inr different) =
      let there : other < length old.heads = omega (arith, replaced.shape.long) in
      keeps_as new_cells old.tenant new.tenant other (chain_versions old_cells old other) (chain_versions new_cells new other) (latest_slot old other) (latest_slot new other) (sym replaced.shape.tenant) (sym (others_kept other there different)) (sym (latest.others other different))
      (keeps_held old_cells new_cells old.tenant other (chain_versions old_cells old other) (latest_slot old other) (latest.held other different) (stands.latest other there))

  pub Stands-replaced : LatestKept old_cells new_cells old new chain now → HoldsChains new_cells new
  Stands-replaced latest =
      record {
        chained = λ other inside. path_of other inside (same_or_not other chain);
        falling = λ other inside. falls_of other inside (same_or_not other chain);
        counted = (let more = sums in let is = ap length now_is in omega (arith, stands.counted, replaced.used));
        owned = rw replaced.shape.tenant (omega (arith, stands.owned, replaced.counted, replaced.used));
        fits = replaced.fits;
        long = latest.long ∙ stands.long ∙ sym replaced.shape.long;
        latest = λ other inside. latest_at latest other inside (same_or_not other chain);
      }

  pub versions-replaced : chain_versions new_cells new chain ≡ now
  versions-replaced = now_is

  pub others-replaced : OtherChainsKept old_cells old new_cells new chain
  others-replaced = others_kept

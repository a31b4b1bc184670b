-- For `Versions`: sweep_at and discard. What a call of one tenant does to the block.
use Rattle.std.proofs.Common.{◌≡◌, length, refl, sym, ap, subst, arith}
use Rattle.version_chain.specs.Heads.{Heads}
use Rattle.version_chain.specs.Chain.{Cells, HoldsChains}
use Rattle.version_chain.specs.Listed.{with_kept}
use Rattle.version_chain.specs.Sharing.{ChangesOwn}
use Rattle.version_chain.proofs.Changing.{own_next}
use Rattle.version_chain.proofs.Listing.{stands_with}

-- after a sweep
module _ (cells : Cells) (heads new : Heads) (rest : new ≡ with_kept heads new.kept) where
  pub still_stands : HoldsChains cells heads → HoldsChains cells new
  still_stands stands = subst (HoldsChains cells) (sym rest) (stands_with cells heads new.kept stands)

  pub own_after : (last : Cells) (end : Heads) → ChangesOwn cells last new end → ChangesOwn cells last heads end
  own_after last end own = own_next cells cells last heads new end (record {
    shape = record {
      tenant = ap (λ (h : Heads). h.tenant) rest;
      share = ap (λ (h : Heads). h.share) rest;
      long = ap (λ (h : Heads). length h.heads) rest;
    };
    others = record { long = refl; cells = λ other slot different. refl };
    live = omega (arith, ap (λ (h : Heads). h.used) rest);
  }) own

-- What was read of a request: for `hear`.
use Rattle.std.proofs.Common.{◌≡◌, ◌+◌, ℕ, List, take, drop, sym, subst}
use Rattle.std.specs.Io.KnownBytes.{Consumes}
use Rattle.std.proofs.KnownBytes.{Consumes-trans}
use Rattle.std.proofs.Math.Seq.{take-add}
use Rattle.std.specs.Prelude.{Option}

-- what one read more took, behind the bytes that were there
pub read_on : (a b c : Option (List ℕ)) (old new : List ℕ) (len taken : ℕ) → Consumes a b (take len old) → take len new ≡ take len old
    → Consumes b c (take taken (drop len new)) → Consumes a c (take (len + taken) new)
read_on a b c old new len taken first same more =
    subst (λ (l : List ℕ). Consumes a c l) (sym (take-add len taken new))
    (Consumes-trans a b c (take len new) (take taken (drop len new)) (subst (λ (l : List ℕ). Consumes a b l) (sym same) first) more)

-- Lemmas for the end of `Arena`: the places of its values are emptied one after another.
use Rattle.std.proofs.Common.{◌≡◌, ℕ, zero, suc, ◌+◌, ◌<◌, ◌≤◌, ◌⊎◌, inl, inr, List, [], ◌∷◌, length, get_or, replicate, Option, None, refl, arith}

pub lt_or_same : (k n : ℕ) → k < n + 1 → (k < n) ⊎ (k ≡ n)
lt_or_same zero zero below = inr refl
lt_or_same zero (suc n) below = inl (omega arith)
lt_or_same (suc k) zero below = absurd (omega arith)
lt_or_same (suc k) (suc n) below = elim (lt_or_same k n (omega arith)) [ inl lower ↦ inl (omega arith) | inr same ↦ inr (omega arith) ]

module _ {X : Type 0} where
  pub all_empty : (places : List (Option X)) → ((index : ℕ) → index < length places → get_or places index None ≡ None) → places ≡ replicate (length places) None
  all_empty [] empty = refl
  all_empty (place ∷ places) empty = λ i. empty 0 (omega arith) i ∷ all_empty places (λ index within. empty (suc index) (omega arith)) i

-- a number is below another, or not
pub lower_or_not : (k n : ℕ) → (k < n) ⊎ (n ≤ k)
lower_or_not k zero = inr (omega arith)
lower_or_not zero (suc n) = inl (omega arith)
lower_or_not (suc k) (suc n) = elim (lower_or_not k n) [ inl lower ↦ inl (omega arith) | inr above ↦ inr (omega arith) ]

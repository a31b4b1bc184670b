-- For the searches of `RowList`. What is known of the elements before and behind those that are left.
use Rattle.std.proofs.Common.{◌≡◌, ℕ, ◌+◌, ◌<◌, ◌≤◌, Bool, true, false, List, [], ◌∷◌, length, get_or, refl, ap, arith}
use Rattle.std.specs.Fn.{Called, Mut, AlwaysReturns}
use Rattle.std.specs.Ordering.{ordering_index}
use Rattle.std.specs.declared.cmp.Ordering.{Ordering}
use Rattle.std.specs.declared.cmp.Ordering.TheVariants.{Less, Equal, Greater}
use Rattle.std.specs.List.{AllWithin, HoldsAt}
use Rattle.std.specs.List.Sorted.{IsNonDecreasingBy, IsPartitionedBy}

-- ---- a closure that computes a function

module _ {F X R : Type 0} (g : Mut F X R) (P : X → R → Type 0) where
  -- it does so at a call, and from then on
  pub answers_on : (f : F) (a : X) (r : R) (after : F) → Called g f a r after → AlwaysReturns g P f → P a r × AlwaysReturns g P after
  answers_on f a r after call always = ((always.at (a ∷ []) r after call).0, record { at = λ later. (always.at (a ∷ later) r after call).1 })

-- ---- what is left to look at

least : (r : Ordering) → ordering_index r ≤ 0 → r ≡ Less
least Less low = refl
least Equal low = absurd (omega arith)
least Greater low = absurd (omega arith)

greatest : (r : Ordering) → 2 ≤ ordering_index r → r ≡ Greater
greatest Less high = absurd (omega arith)
greatest Equal high = absurd (omega arith)
greatest Greater high = refl

module _ {X : Type 0} (ord : X → Ordering) (xs : List X) where
  -- where the answers rise, they are `Less` before the one place and `Greater` from the other on
  abbrev pub Narrowed : ℕ → ℕ → Type 0
  Narrowed low high = IsNonDecreasingBy (λ y. ordering_index (ord y)) xs
      → AllWithin (λ y. ord y ≡ Less) xs 0 low × AllWithin (λ y. ord y ≡ Greater) xs high (length xs)

  pub narrowed_all : (high : ℕ) → high ≡ length xs → Narrowed 0 high
  narrowed_all high all rises = (λ k d from to. absurd (omega arith), λ k d from to. absurd (omega arith))

  pub narrowed_up : (low high middle : ℕ) → middle < length xs → HoldsAt (λ y. ord y ≡ Less) xs middle → Narrowed low high → Narrowed (middle + 1) high
  narrowed_up low high middle within here narrowed rises =
      (λ k d from to. least (ord (get_or xs k d)) (omega (arith, rises k middle d (omega arith) within, ap ordering_index (here d))), (narrowed rises).1)

  pub narrowed_down : (low high middle : ℕ) → HoldsAt (λ y. ord y ≡ Greater) xs middle → Narrowed low high → Narrowed low middle
  narrowed_down low high middle here narrowed rises =
      ((narrowed rises).0, λ k d from to. greatest (ord (get_or xs k d)) (omega (arith, rises middle k d from to, ap ordering_index (here d))))

module _ {X : Type 0} (p : X → Bool) (xs : List X) where
  -- where no element that passes comes after one that fails, they pass before the one place and fail from the other on
  abbrev pub Parted : ℕ → ℕ → Type 0
  Parted low high = IsPartitionedBy p xs → AllWithin (λ y. p y ≡ true) xs 0 low × AllWithin (λ y. p y ≡ false) xs high (length xs)

  pub parted_all : (high : ℕ) → high ≡ length xs → Parted 0 high
  parted_all high all parts = (λ k d from to. absurd (omega arith), λ k d from to. absurd (omega arith))

  pub parted_up : (low high middle : ℕ) → middle < length xs → HoldsAt (λ y. p y ≡ true) xs middle → Parted low high → Parted (middle + 1) high
  parted_up low high middle within here parted parts = (λ k d from to. parts k middle d (omega arith) within (here d), (parted parts).1)

  fails : (middle k : ℕ) (d : X) → IsPartitionedBy p xs → p (get_or xs middle d) ≡ false → middle ≤ k → k < length xs → (b : Bool) → p (get_or xs k d) ≡ b → b ≡ false
  fails middle k d parts failed from to true passed = let there = parts middle k d from to passed in cc
  fails middle k d parts failed from to false is = refl

  pub parted_down : (low high middle : ℕ) → HoldsAt (λ y. p y ≡ false) xs middle → Parted low high → Parted low middle
  parted_down low high middle here parted parts =
      ((parted parts).0, λ k d from to. fails middle k d parts (here d) from to (p (get_or xs k d)) refl)

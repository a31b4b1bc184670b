-- For `Chains`. Slots that are apart, and sums over the cells that they pick.
use Rattle.std.proofs.Common.{◌≡◌, ◌≢◌, ◌⊎◌, inl, inr, ℕ, zero, suc, ◌+◌, ◌<◌, ◌≤◌, List, [], ◌∷◌, ◌++◌, set, get_or, sum_by, refl, sym, ap, arith}
use Rattle.std.proofs.lemmas.List.{get_or-set_other}
use Rattle.std.proofs.lemmas.List.Sums.{sum_by-cons}
use Rattle.version_chain.proofs.Replacing.{same_or_not}

-- the number is in the list
abbrev pub Has : ℕ → List ℕ → Type 0
Has x [] = ⊥
Has x (y ∷ ys) = (y ≡ x) ⊎ Has x ys

-- it is not
abbrev pub Lacks : ℕ → List ℕ → Type 0
Lacks x [] = Unit {0}
Lacks x (y ∷ ys) = (y ≢ x) × Lacks x ys

-- no number is in the list twice
abbrev pub Apart : List ℕ → Type 0
Apart [] = Unit {0}
Apart (x ∷ xs) = Lacks x xs × Apart xs

pub lacks_append : (x : ℕ) (xs ys : List ℕ) → Lacks x xs → Lacks x ys → Lacks x (xs ++ ys)
lacks_append x [] ys first second = second
lacks_append x (y ∷ xs) ys first second = (first.0, lacks_append x xs ys first.1 second)

-- each of the first list is lacking in the second
abbrev pub EachLacks : List ℕ → List ℕ → Type 0
EachLacks [] ys = Unit {0}
EachLacks (x ∷ xs) ys = Lacks x ys × EachLacks xs ys

pub apart_append : (xs ys : List ℕ) → Apart xs → Apart ys → EachLacks xs ys → Apart (xs ++ ys)
apart_append [] ys first second each = second
apart_append (x ∷ xs) ys first second each = (lacks_append x xs ys first.0 each.0, apart_append xs ys first.1 second each.1)

pub has_append : (x : ℕ) (xs ys : List ℕ) → Has x (xs ++ ys) → Has x xs ⊎ Has x ys
has_append x [] ys has = inr has
has_append x (y ∷ xs) ys (inl same) = inl (inl same)
has_append x (y ∷ xs) ys (inr has) = elim (has_append x xs ys has) [ inl first ↦ inl (inr first) | inr second ↦ inr second ]

-- what is counted of the element at an index
abbrev pub picked_at : {X : Type 0} → (X → ℕ) → X → List X → ℕ → ℕ
picked_at f d xs i = f (get_or xs i d)

module _ {X : Type 0} (f : X → ℕ) (d : X) (none : f d ≡ 0) where
  abbrev picked : List X → ℕ → ℕ
  picked = picked_at f d

  without : (xs : List X) (i : ℕ) → sum_by f (set xs i d) + picked xs i ≡ sum_by f xs
  without [] i = omega (arith, none)
  without (x ∷ xs) zero = omega (arith, none, sum_by-cons f x xs, sum_by-cons f d xs)
  without (x ∷ xs) (suc i) = omega (arith, without xs i, sum_by-cons f x xs, sum_by-cons f x (set xs i d))

  gone : (xs : List X) (i : ℕ) → picked (set xs i d) i ≡ 0
  gone [] i = none
  gone (x ∷ xs) zero = none
  gone (x ∷ xs) (suc i) = gone xs i

  other : (xs : List X) (i j : ℕ) → j ≢ i → picked (set xs i d) j ≡ picked xs j
  other xs i j different = ap f (get_or-set_other xs i j d d different)

  others : (i : ℕ) (places : List ℕ) (xs : List X) → Lacks i places → sum_by (picked (set xs i d)) places ≡ sum_by (picked xs) places
  others i [] xs lacks = refl
  others i (j ∷ places) xs lacks =
      omega (arith, sum_by-cons (picked (set xs i d)) j places, sum_by-cons (picked xs) j places, other xs i j lacks.0, others i places xs lacks.1)

  -- what is picked is at most all
  pub at_most : (places : List ℕ) (xs : List X) → Apart places → sum_by (picked xs) places ≤ sum_by f xs
  at_most [] xs apart = omega arith
  at_most (i ∷ places) xs apart =
      omega (arith, sum_by-cons (picked xs) i places, without xs i, others i places xs apart.0, at_most places (set xs i d) apart.1)

  -- where it is all, each element that counts is picked
  pub is_picked : (s : ℕ) (places : List ℕ) (xs : List X) → Apart places → sum_by (picked xs) places ≡ sum_by f xs → 0 < picked xs s → Has s places
  is_picked s [] xs apart all counts = absurd (omega (arith, without xs s, all))
  is_picked s (i ∷ places) xs apart all counts = elim (same_or_not i s) [
    | inl same ↦ inl same
    | inr different ↦
        let there = other xs i s (λ same. different (sym same)) in
        inr (is_picked s places (set xs i d) apart.1 (omega (arith, sum_by-cons (picked xs) i places, without xs i, others i places xs apart.0, all)) (omega (arith, there, counts)))
  ]

  nothing : (xs : List X) → ((i : ℕ) → picked xs i ≡ 0) → sum_by f xs ≡ 0
  nothing [] each = refl
  nothing (x ∷ xs) each = omega (arith, sum_by-cons f x xs, each 0, nothing xs (λ i. each (suc i)))

  zero_or_more : (n : ℕ) → (n ≡ 0) ⊎ (0 < n)
  zero_or_more zero = inl refl
  zero_or_more (suc n) = inr (omega arith)

  -- where each element that counts is picked, it is all
  pub is_all : (places : List ℕ) (xs : List X) → Apart places → ((s : ℕ) → 0 < picked xs s → Has s places) → sum_by (picked xs) places ≡ sum_by f xs
  is_all [] xs apart each = sym (nothing xs (λ i. elim (zero_or_more (picked xs i)) [ inl is ↦ is | inr more ↦ absurd (each i more) ]))
  is_all (i ∷ places) xs apart each =
      let rest = is_all places (set xs i d) apart.1 left in
      omega (arith, sum_by-cons (picked xs) i places, without xs i, others i places xs apart.0, rest)
    where
      left : (s : ℕ) → 0 < picked (set xs i d) s → Has s places
      left s counts = elim (same_or_not s i) [
        | inl same ↦ absurd (let none_there = gone xs i in let at = ap (picked (set xs i d)) same in omega (arith, none_there, at, counts))
        | inr different ↦ elim (each s (let there = other xs i s different in omega (arith, there, counts))) [ inl same ↦ absurd (different (sym same)) | inr has ↦ has ]
      ]

-- Lists that begin with one another, and where an element stands.
use Rattle.std.proofs.Common.{◌≡◌, ◌⊎◌, ◌∙◌, List, [], ◌∷◌, ◌++◌, length, refl, ap, sym, subst, inl, inr, arith, append_assoc}
use mathlib.Core.List.{IsPrefix}
use Rattle.plain_store.specs.Words.{◌∈◌}
use Rattle.plain_store.proofs.Members.{in_left, in_right}

pub prefix_of_itself : {A : Type 0} (xs : List A) → IsPrefix xs xs
prefix_of_itself [] = ([], refl)
prefix_of_itself (x ∷ xs) = let p = prefix_of_itself xs in (p.0, ap (λ ys. x ∷ ys) p.1)

pub prefix_join : {A : Type 0} (xs ys zs : List A) → IsPrefix xs ys → IsPrefix ys zs → IsPrefix xs zs
prefix_join xs ys zs p q = (p.0 ++ q.0, sym (append_assoc xs p.0 q.0) ∙ ap (λ w. w ++ q.0) p.1 ∙ q.1)

pub prefix_has : {A : Type 0} (xs ys : List A) (x : A) → IsPrefix xs ys → x ∈ xs → x ∈ ys
prefix_has xs ys x p has = subst (λ l. x ∈ l) p.1 (in_left xs p.0 x has)

pub last_in : {A : Type 0} (xs : List A) (x : A) → x ∈ (xs ++ x ∷ [])
last_in xs x = in_right xs (x ∷ []) x (inl refl)

pub none_of_none : {A : Type 0} (xs : List A) → length xs ≡ 0 → xs ≡ []
none_of_none [] e = refl
none_of_none (x ∷ xs) e = absurd (omega (arith, e))

-- x stands in the list, behind these and before others
abbrev pub StandsBehind : {A : Type 0} → List A → List A → A → Type 0
StandsBehind {A} xs before x = (after : List A) × (xs ≡ before ++ x ∷ after)

no_end : {A : Type 0} (before after : List A) (d : A) → [] ≡ before ++ d ∷ after → ⊥
no_end [] after d e = cc
no_end (b ∷ before) after d e = cc

-- an element of a list with one more is the last one, or stands in the list behind the same ones
pub split_last : {A : Type 0} (xs : List A) (e : A) (before : List A) (d : A) (after : List A) → xs ++ e ∷ [] ≡ before ++ d ∷ after
    → StandsBehind xs before d ⊎ ((before ≡ xs) × (d ≡ e))
split_last [] e [] d after is = inr (refl, cc)
split_last [] e (b ∷ before) d after is = absurd (no_end before after d cc)
split_last (x ∷ xs) e [] d after is = inl (xs, cc)
split_last {A} (x ∷ xs) e (b ∷ before) d after is = go (split_last xs e before d after cc)
  where
    same : x ≡ b
    same = cc

    go : StandsBehind xs before d ⊎ ((before ≡ xs) × (d ≡ e)) → StandsBehind (x ∷ xs) (b ∷ before) d ⊎ (((b ∷ before) ≡ (x ∷ xs)) × (d ≡ e))
    go (inl s) = let is' = s.1 in inl (s.0, cc)
    go (inr s) = let is' = s.0 in inr (cc, s.1)

pub split_at : {A : Type 0} (xs : List A) (x : A) → x ∈ xs → (before : List A) × StandsBehind xs before x
split_at [] x h = absurd h
split_at (a ∷ xs) x (inl e) = ([], (xs, ap (λ y. y ∷ xs) (sym e)))
split_at (a ∷ xs) x (inr h) = let s = split_at xs x h in (a ∷ s.0, (s.1.0, ap (λ ys. a ∷ ys) s.1.1))

-- one of two elements stands behind the other
abbrev pub StandsAfter : {A : Type 0} → List A → A → A → Type 0
StandsAfter {A} xs x y = (before : List A) × (x ∈ before) × StandsBehind xs before y

-- of two elements of a list one stands behind the other, or they are the same
pub order : {A : Type 0} (xs : List A) (x y : A) → x ∈ xs → y ∈ xs → (x ≡ y) ⊎ (StandsAfter xs x y ⊎ StandsAfter xs y x)
order [] x y h k = absurd h
order (a ∷ xs) x y (inl e) (inl f) = inl (e ∙ sym f)
order (a ∷ xs) x y (inl e) (inr k) =
    let s = split_at xs y k in inr (inl (a ∷ s.0, inl e, (s.1.0, ap (λ ys. a ∷ ys) s.1.1)))
order (a ∷ xs) x y (inr h) (inl f) =
    let s = split_at xs x h in inr (inr (a ∷ s.0, inl f, (s.1.0, ap (λ ys. a ∷ ys) s.1.1)))
order {A} (a ∷ xs) x y (inr h) (inr k) = go (order xs x y h k)
  where
    further : (u v : A) → StandsAfter xs u v → StandsAfter (a ∷ xs) u v
    further u v s = (a ∷ s.0, inr s.1, (s.2.0, ap (λ ys. a ∷ ys) s.2.1))

    go : (x ≡ y) ⊎ (StandsAfter xs x y ⊎ StandsAfter xs y x) → (x ≡ y) ⊎ (StandsAfter (a ∷ xs) x y ⊎ StandsAfter (a ∷ xs) y x)
    go (inl e) = inl e
    go (inr (inl s)) = inr (inl (further x y s))
    go (inr (inr s)) = inr (inr (further y x s))

-- ---- beginnings of one list

-- of two of them one begins with the other
pub prefixes_compare : {A : Type 0} (xs ys zs : List A) → IsPrefix xs zs → IsPrefix ys zs → IsPrefix xs ys ⊎ IsPrefix ys xs
prefixes_compare [] ys zs p q = inl (ys, refl)
prefixes_compare (x ∷ xs) [] zs p q = inr (x ∷ xs, refl)
prefixes_compare {A} (x ∷ xs) (y ∷ ys) [] p q = absurd (cc p.1)
prefixes_compare {A} (x ∷ xs) (y ∷ ys) (z ∷ zs) p q =
    let first : x ≡ z = (let e = p.1 in cc) in
    let second : y ≡ z = (let e = q.1 in cc) in
    go (first ∙ sym second) (prefixes_compare xs ys zs (p.0, (let e = p.1 in cc)) (q.0, (let e = q.1 in cc)))
  where
    go : x ≡ y → IsPrefix xs ys ⊎ IsPrefix ys xs → IsPrefix (x ∷ xs) (y ∷ ys) ⊎ IsPrefix (y ∷ ys) (x ∷ xs)
    go same (inl one) = inl (one.0, (let e = one.1 in cc))
    go same (inr one) = inr (one.0, (let e = one.1 in cc))

-- what a list with one more begins with is all of it, or what it begins with without that
pub prefix_of_more : {A : Type 0} (xs before : List A) (e : A) → IsPrefix xs (before ++ e ∷ []) → (xs ≡ before ++ e ∷ []) ⊎ IsPrefix xs before
prefix_of_more [] before e p = inr (before, refl)
prefix_of_more (x ∷ []) [] e p = inl (let is = p.1 in cc)
prefix_of_more (x ∷ y ∷ xs) [] e p = absurd (let is = p.1 in cc)
prefix_of_more {A} (x ∷ xs) (b ∷ before) e p = go (prefix_of_more xs before e (p.0, (let is = p.1 in cc)))
  where
    same : x ≡ b
    same = let is = p.1 in cc

    go : (xs ≡ before ++ e ∷ []) ⊎ IsPrefix xs before → ((x ∷ xs) ≡ (b ∷ before) ++ e ∷ []) ⊎ IsPrefix (x ∷ xs) (b ∷ before)
    go (inl all) = inl cc
    go (inr some) = inr (some.0, (let is = some.1 in cc))

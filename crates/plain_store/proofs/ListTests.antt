-- Tests over lists: one more element, a list that was mapped, and tests that answer alike.
use Rattle.std.proofs.Common.{◌≡◌, List, [], ◌∷◌, ◌++◌, Bool, true, false, ◌&&◌, ◌||◌, not, map, filter, ap, sym, ◌∙◌, refl, cond}
use Rattle.std.specs.List.{list_any, list_all}
use Rattle.std.proofs.lemmas.List.Recursion.{or_push, and_push}

pub or_parts : (x y : Bool) → (x || y) ≡ false → (x ≡ false) × (y ≡ false)
or_parts true y h = cc
or_parts false y h = (refl, h)

pub or-false : (x : Bool) → (x || false) ≡ x
or-false true = refl
or-false false = refl

pub and-true : (x : Bool) → (x && true) ≡ x
and-true true = refl
and-true false = refl

pub and-false : (x : Bool) → (x && false) ≡ false
and-false true = refl
and-false false = refl

pub any_push : {X : Type 0} (p : X → Bool) (xs : List X) (x : X) → list_any p (xs ++ x ∷ []) ≡ (list_any p xs || p x)
any_push p xs x = or_push (list_any p) p refl (λ y ys. refl) xs x

pub all_push : {X : Type 0} (p : X → Bool) (xs : List X) (x : X) → list_all p (xs ++ x ∷ []) ≡ (list_all p xs && p x)
all_push p xs x = and_push (list_all p) p refl (λ y ys. refl) xs x

-- an element that does not pass changes nothing
pub any_same : {X : Type 0} (p : X → Bool) (xs : List X) (x : X) → p x ≡ false → list_any p (xs ++ x ∷ []) ≡ list_any p xs
any_same p xs x fails = any_push p xs x ∙ ap (λ b. list_any p xs || b) fails ∙ or-false (list_any p xs)

pub all_alike : {X : Type 0} (p q : X → Bool) → ((x : X) → p x ≡ q x) → (xs : List X) → list_all p xs ≡ list_all q xs
all_alike p q alike [] = refl
all_alike p q alike (x ∷ xs) = ap (λ b. b && list_all p xs) (alike x) ∙ ap (λ b. q x && b) (all_alike p q alike xs)

pub any-map : {X Y : Type 0} (p : Y → Bool) (f : X → Y) (xs : List X) → list_any p (map f xs) ≡ list_any (λ x. p (f x)) xs
any-map p f [] = refl
any-map p f (x ∷ xs) = ap (λ b. p (f x) || b) (any-map p f xs)

pub all-map : {X Y : Type 0} (p : Y → Bool) (f : X → Y) (xs : List X) → list_all p (map f xs) ≡ list_all (λ x. p (f x)) xs
all-map p f [] = refl
all-map p f (x ∷ xs) = ap (λ b. p (f x) && b) (all-map p f xs)

pub map_alike : {X Y : Type 0} (f g : X → Y) → ((x : X) → f x ≡ g x) → (xs : List X) → map f xs ≡ map g xs
map_alike f g alike [] = refl
map_alike f g alike (x ∷ xs) = λ i. alike x i ∷ map_alike f g alike xs i

pub map_again : {X Y Z : Type 0} (h : Y → Z) (f : X → Y) (g : X → Z) → ((x : X) → h (f x) ≡ g x) → (xs : List X) → map h (map f xs) ≡ map g xs
map_again h f g alike [] = refl
map_again h f g alike (x ∷ xs) = λ i. alike x i ∷ map_again h f g alike xs i

pub filter_alike : {X : Type 0} (p q : X → Bool) → ((x : X) → p x ≡ q x) → (xs : List X) → filter p xs ≡ filter q xs
filter_alike p q alike [] = refl
filter_alike p q alike (x ∷ xs) = ap (λ b. cond b (x ∷ filter p xs) (filter p xs)) (alike x) ∙ ap (λ zs. cond (q x) (x ∷ zs) zs) (filter_alike p q alike xs)

pub any_alike : {X : Type 0} (p q : X → Bool) → ((x : X) → p x ≡ q x) → (xs : List X) → list_any p xs ≡ list_any q xs
any_alike p q alike [] = refl
any_alike p q alike (x ∷ xs) = ap (λ b. b || list_any p xs) (alike x) ∙ ap (λ b. q x || b) (any_alike p q alike xs)

pub any-filter : {X : Type 0} (q p : X → Bool) (xs : List X) → list_any q (filter p xs) ≡ list_any (λ x. q x && p x) xs
any-filter q p [] = refl
any-filter {X} q p (x ∷ xs) = go (p x) (q x) (any-filter q p xs)
  where
    go : (b c : Bool) → list_any q (filter p xs) ≡ list_any (λ y. q y && p y) xs
        → list_any q (cond b (x ∷ filter p xs) (filter p xs)) ≡ ((q x && b) || list_any (λ y. q y && p y) xs)
    go true c rest = ap (λ b. q x || b) rest ∙ ap (λ b. b || list_any (λ y. q y && p y) xs) (sym (and-true (q x)))
    go false c rest = rest ∙ ap (λ b. b || list_any (λ y. q y && p y) xs) (sym (and-false (q x)))

pub all-filter : {X : Type 0} (q p : X → Bool) (xs : List X) → list_all q (filter p xs) ≡ list_all (λ x. not (p x) || q x) xs
all-filter q p [] = refl
all-filter {X} q p (x ∷ xs) = go (p x) (all-filter q p xs)
  where
    go : (b : Bool) → list_all q (filter p xs) ≡ list_all (λ y. not (p y) || q y) xs
        → list_all q (cond b (x ∷ filter p xs) (filter p xs)) ≡ ((not b || q x) && list_all (λ y. not (p y) || q y) xs)
    go true rest = ap (λ b. q x && b) rest
    go false rest = rest

pub filter-map : {X Y : Type 0} (p : Y → Bool) (f : X → Y) (xs : List X) → filter p (map f xs) ≡ map f (filter (λ x. p (f x)) xs)
filter-map p f [] = refl
filter-map {X} p f (x ∷ xs) = go (p (f x)) (filter-map p f xs)
  where
    go : (b : Bool) → filter p (map f xs) ≡ map f (filter (λ y. p (f y)) xs)
        → cond b (f x ∷ filter p (map f xs)) (filter p (map f xs)) ≡ map f (cond b (x ∷ filter (λ y. p (f y)) xs) (filter (λ y. p (f y)) xs))
    go true rest = ap (λ ys. f x ∷ ys) rest
    go false rest = rest

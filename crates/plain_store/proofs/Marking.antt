-- Loops that write over each element of a list, or one after another.
use Rattle.std.proofs.Common.{length-append, take-append-drop, ◌≡◌, ℕ, ◌+◌, ◌<◌, ◌≤◌, List, [], ◌∷◌, ◌++◌, length, map, take, drop, set, get_or, ap, sym, ◌∙◌}
use Rattle.std.proofs.lemmas.List.{take_all, drop_all, append-nil, take_more, take_more_set, map-append, length-map}

-- all elements were written over
pub mapped_all : {X : Type 0} (f : X → X) (xs ys : List X) (i : ℕ) → length xs ≤ i → ys ≡ map f (take i xs) ++ drop i xs → ys ≡ map f xs
mapped_all f xs ys i past so_far =
    so_far ∙ ap (λ zs. map f zs ++ drop i xs) (take_all i xs past) ∙ ap (λ zs. map f xs ++ zs) (drop_all i xs past) ∙ append-nil (map f xs)

-- one more place is filled with what f makes of an element
pub filled_more : {X Y : Type 0} (f : X → Y) (xs : List X) (ys : List Y) (i : ℕ) (x : X) (y : Y) → i < length xs → i < length ys → x ≡ get_or xs i x → y ≡ f x
    → take i ys ≡ map f (take i xs) → take (i + 1) (set ys i y) ≡ map f (take (i + 1) xs)
filled_more f xs ys i x y within room is made so_far =
    take_more_set ys i y room ∙ ap (λ zs. zs ++ y ∷ []) so_far ∙ ap (λ (w : _). map f (take i xs) ++ w ∷ []) (made ∙ ap f is)
    ∙ sym (ap (map f) (take_more xs i x within) ∙ map-append f (take i xs) (get_or xs i x ∷ []))

-- a list keeps its length while it is written over
pub length-mapped : {X : Type 0} (f : X → X) (xs ys : List X) (i : ℕ) → ys ≡ map f (take i xs) ++ drop i xs → length ys ≡ length xs
length-mapped f xs ys i so_far =
    ap length so_far ∙ length-append (map f (take i xs)) (drop i xs) ∙ ap (λ n. n + length (drop i xs)) (length-map (take i xs) f)
    ∙ sym (length-append (take i xs) (drop i xs)) ∙ ap length (take-append-drop i xs)

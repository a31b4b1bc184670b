-- The search of the refusal that has a number: what stands among the first ones, and the one behind them.
use Rattle.std.proofs.Common.{◌≡◌, ◌∙◌, ap, sym, refl, Bool, true, false, ℕ, ◌+◌, ◌<◌, List, [], ◌∷◌, take, drop, length, Some, None}
use Rattle.std.specs.Prelude.{get_or}
use Rattle.std.specs.List.{find}
use Rattle.std.proofs.lemmas.List.{take_more, take-append-drop}
use Rattle.std.proofs.lemmas.List.Folds.{find-append}

-- the first ones and one more
one_more : {X : Type 0} (test : X → Bool) (xs : List X) (i : ℕ) (d : X) → i < length xs → find test (take i xs) ≡ None → find test (take (i + 1) xs) ≡ find test (get_or xs i d ∷ [])
one_more test xs i d within none =
    ap (find test) (take_more xs i d within) ∙ find-append test (take i xs) (get_or xs i d ∷ []) ∙ rw none refl

pub none_more : {X : Type 0} (test : X → Bool) (xs : List X) (i : ℕ) (d : X) → i < length xs → find test (take i xs) ≡ None → test (get_or xs i d) ≡ false → find test (take (i + 1) xs) ≡ None
none_more test xs i d within none fails = one_more test xs i d within none ∙ rw fails refl

found_there : {X : Type 0} (test : X → Bool) (xs : List X) (i : ℕ) (d : X) → i < length xs → find test (take i xs) ≡ None → test (get_or xs i d) ≡ true → find test (take (i + 1) xs) ≡ Some (get_or xs i d)
found_there test xs i d within none passes = one_more test xs i d within none ∙ rw passes refl

pub is_found : {X : Type 0} (test : X → Bool) (xs : List X) (i : ℕ) (d : X) → i < length xs → find test (take i xs) ≡ None → test (get_or xs i d) ≡ true → find test xs ≡ Some (get_or xs i d)
is_found test xs i d within none passes =
    ap (find test) (sym (take-append-drop (i + 1) xs))
    ∙ find-append test (take (i + 1) xs) (drop (i + 1) xs)
    ∙ rw (found_there test xs i d within none passes) refl

-- Results, and places of lists: for the calls of `World` and of `Tenant`.
use Rattle.std.proofs.Common.{is_ok, drop, get_or, append-nil, Bool, true, not, is_some, is_none, ◌≢◌, ◌⊎◌, inl, inr, subst, set, ◌≡◌, ℕ, zero, suc, ◌+◌, ◌<◌, ◌≤◌, List, [], ◌∷◌, ◌++◌, refl, sym, ap, ◌∙◌, take, add-one, Option, Some, None, Result, Ok, Err, slice_get, length, arith}
use Rattle.std.proofs.lemmas.List.{take_all}
use Rattle.std.proofs.lemmas.Option.{slice_get_read, slice_get_within, get_or_from_slice_get}
use Rattle.std.proofs.Math.Seq.{take-suc, drop-length}
use Rattle.std.specs.Prelude.{IsOk, IsErr, OnOk, OnErr, IfOk, MatchResult}

pub on_ok : {A E : Type 0} (r : Result A E) (P : Type 0) → IsOk r → OnOk r P → P
on_ok (Ok x) P is holds = holds
on_ok (Err e) P is holds = cc

-- one element more
pub take_got : {X : Type 0} (xs : List X) (n : ℕ) (x : X) → slice_get xs n ≡ Some x → take (n + 1) xs ≡ take n xs ++ x ∷ []
take_got xs n x at = ap (λ k. take k xs) (add-one n) ∙ take-suc xs n x (slice_get_within xs n x at) ∙ ap (λ y. take n xs ++ y ∷ []) (get_or_from_slice_get xs n x x at)

-- there is no element more, nor any after it
pub take_ended : {X : Type 0} (xs : List X) (n k : ℕ) → slice_get xs n ≡ None → n ≤ k → take k xs ≡ take n xs
take_ended xs n k at past =
    let short = ended xs n at in
    take_all k xs (omega (arith, short, past)) ∙ sym (take_all n xs short)
  where
    ended : {X : Type 0} (xs : List X) (n : ℕ) → slice_get xs n ≡ None → length xs ≤ n
    ended [] n at = omega arith
    ended (y ∷ ys) zero at = cc
    ended (y ∷ ys) (suc n) at = let rest = ended ys n at in omega (arith, rest)

-- one place holds one thing
pub same_one : {X : Type 0} (o : Option X) (x y : X) → o ≡ Some x → o ≡ Some y → x ≡ y
same_one (Some z) x y one other = let a : z ≡ x = cc in let b : z ≡ y = cc in sym a ∙ b
same_one None x y one other = cc

-- or none
pub not_both : {X : Type 0} (o : Option X) (x : X) → o ≡ Some x → o ≡ None → ⊥
not_both (Some z) x there gone = cc
not_both None x there gone = cc

pub none_of : {X : Type 0} (o : Option X) → ((x : X) → o ≡ Some x → ⊥) → o ≡ None
none_of None not_some = refl
none_of (Some x) not_some = absurd (not_some x refl)

pub whole : {X : Type 0} (xs : List X) (n : ℕ) → length xs ≤ n → take n xs ≡ xs
whole xs n short = take_all n xs short

pub if_ok : {A E : Type 0} (r : Result A E) (P : A → Type 0) (x : A) → r ≡ Ok x → IfOk r P → P x
if_ok (Ok y) P x e holds = subst P (let same : y ≡ x = cc in same) holds
if_ok (Err y) P x e holds = cc

pub match_map : {A E : Type 0} (r : Result A E) (P P' : A → Type 0) (Q Q' : E → Type 0) → ((x : A) → P x → P' x) → ((e : E) → Q e → Q' e) → MatchResult r P Q → MatchResult r P' Q'
match_map (Ok x) P P' Q Q' f g holds = f x holds
match_map (Err e) P P' Q Q' f g holds = g e holds

-- a list in which one element was set has that element at its place, and elsewhere what it had
pub after_set : {X : Type 0} (xs : List X) (place : ℕ) (after : X) (at : ℕ) (x : X) → place < length xs → slice_get (set xs place after) at ≡ Some x → ((at ≡ place) × (x ≡ after)) ⊎ ((at ≢ place) × (slice_get xs at ≡ Some x))
after_set [] place after at x within is = absurd (omega (arith, within))
after_set (y ∷ ys) zero after zero x within is = inl (refl, let same : after ≡ x = cc in sym same)
after_set (y ∷ ys) zero after (suc at) x within is = inr ((λ e. cc), is)
after_set (y ∷ ys) (suc place) after zero x within is = inr ((λ e. cc), is)
after_set (y ∷ ys) (suc place) after (suc at) x within is = elim (after_set ys place after at x (omega (arith, within)) is) [
  | inl h ↦ inl (ap suc h.0, h.1)
  | inr h ↦ inr ((λ e. h.0 (let same : at ≡ place = cc in same)), h.1)
]

pub turned : {X : Type 0} (o : Option X) (b : Bool) → is_some o ≡ b → is_none o ≡ not b
turned o b is = other o ∙ ap not is
  where
    other : {X : Type 0} (o : Option X) → is_none o ≡ not (is_some o)
    other None = refl
    other (Some x) = refl

pub some_of : {X : Type 0} (o : Option X) → is_some o ≡ true → (x : X) × (o ≡ Some x)
some_of None is = cc
some_of (Some x) is = (x, refl)

-- what holds of a result at each b holds of it for every b
pub each_ok : {A E B : Type 0} (r : Result A E) (W : B → Type 0) (P : A → B → Type 0) (Q : B → Type 0) → ((b : B) → W b → MatchResult r (λ a. P a b) (λ _. Q b)) → IfOk r (λ a. (b : B) → W b → P a b)
each_ok (Ok a) W P Q f = f
each_ok (Err e) W P Q f = tt

pub each_err : {A E B : Type 0} (r : Result A E) (W : B → Type 0) (P : A → B → Type 0) (Q : B → Type 0) → ((b : B) → W b → MatchResult r (λ a. P a b) (λ _. Q b)) → OnErr r ((b : B) → W b → Q b)
each_err (Ok a) W P Q f = tt
each_err (Err e) W P Q f = f

pub first_part : {A E B : Type 0} (r : Result A E) (W : B → Type 0) (P : A → B → Type 0) (R : B → Type 0) → IfOk r (λ a. (b : B) → W b → P a b × R b) → IfOk r (λ a. (b : B) → W b → P a b)
first_part (Ok a) W P R f = λ b w. (f b w).0
first_part (Err e) W P R f = tt

pub last_part : {A E B : Type 0} (r : Result A E) (W : B → Type 0) (P : A → B → Type 0) (R : B → Type 0) → IfOk r (λ a. (b : B) → W b → P a b × R b) → OnOk r ((b : B) → W b → R b)
last_part (Ok a) W P R f = λ b w. (f b w).1
last_part (Err e) W P R f = tt

-- an answer that was added, and what else is known where it was made
pub added : {A E F B : Type 0} (made : Result A E) (result : Result Unit F) (old mid new : List A) (W : B → Type 0) (S : B → A) (R : B → Type 0) → is_ok result ≡ is_ok made → IfOk made (λ a. OnOk result (new ≡ mid ++ a ∷ [])) → mid ≡ old
    → IfOk made (λ a. (b : B) → W b → a ≡ S b) → OnOk made ((b : B) → W b → R b) → OnOk result ((b : B) → W b → (new ≡ old ++ S b ∷ []) × R b)
added (Ok a) (Ok u) old mid new W S R same pushed kept told rest = λ b w. (pushed ∙ (λ i. kept i ++ told b w i ∷ []), rest b w)
added (Ok a) (Err f) old mid new W S R same pushed kept told rest = tt
added (Err e) (Ok u) old mid new W S R same pushed kept told rest = cc
added (Err e) (Err f) old mid new W S R same pushed kept told rest = tt

-- the elements of a list whose slice was replaced by one of its length
pub replaced : {X : Type 0} (len : ℕ) (xs new : List X) → length new ≡ length xs → length xs ≡ len → take len (new ++ drop (length new) xs) ≡ new
replaced len xs new same whole =
    ap (λ rest. take len (new ++ rest)) (ap (λ n. drop n xs) same ∙ drop-length xs) ∙ ap (take len) (append-nil new) ∙ take_all len new (omega (arith, same, whole))

pub take_one : {X : Type 0} (xs : List X) (i : ℕ) (x : X) → i < length xs → x ≡ get_or xs i x → take (i + 1) xs ≡ take i xs ++ x ∷ []
take_one xs i x within at = take_got xs i x (slice_get_read xs (length xs) i x refl within at)

pub not_ok : {A E : Type 0} (r : Result A E) → IsErr r → is_ok r ≡ true → ⊥
not_ok (Ok x) h e = cc
not_ok (Err x) h e = cc

pub if_ok_map : {A E : Type 0} (r : Result A E) (P Q : A → Type 0) → ((x : A) → P x → Q x) → IfOk r P → IfOk r Q
if_ok_map (Ok x) P Q f holds = f x holds
if_ok_map (Err e) P Q f holds = tt

pub if_ok_both : {A E : Type 0} (r : Result A E) (P Q R : A → Type 0) → ((x : A) → P x → Q x → R x) → IfOk r P → IfOk r Q → IfOk r R
if_ok_both (Ok x) P Q R f one other = f x one other
if_ok_both (Err e) P Q R f one other = tt

-- what is known of a value that was made is known where it was handed on
pub on_ok_both : {A E F : Type 0} (made : Result A E) (result : Result Unit F) (P Q : A → Type 0) (R : Type 0) → is_ok result ≡ is_ok made → ((x : A) → P x → Q x → R) → IfOk made P → IfOk made Q → OnOk result R
on_ok_both (Ok x) (Ok u) P Q R same f one other = f x one other
on_ok_both (Ok x) (Err e) P Q R same f one other = tt
on_ok_both (Err x) (Ok u) P Q R same f one other = cc
on_ok_both (Err x) (Err e) P Q R same f one other = tt

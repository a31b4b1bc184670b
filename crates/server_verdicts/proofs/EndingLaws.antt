-- What holds of each row so far, and of one more.
use Rattle.std.proofs.Common.{◌≡◌, ◌+◌, ◌<◌, ℕ, Bool, true, false, MatchBool, List, [], ◌∷◌, ◌++◌, Some, None, suc, zero, slice_get, get_or, length, length-append, append_assoc, Result, Ok, Err, IfErr, IfOk, Option, add-one, drop, option_to_list, refl, sym, ap, subst, ◌∙◌, ◌⊎◌, inl, inr, arith}
use Rattle.std.specs.Option.{IsSome}
use Rattle.std.proofs.lemmas.Option.{same_Some, slice_get_read}

-- the element of a list that another one is
pub here : {X : Type 0} (xs items : List X) (i : ℕ) (x : X) → items ≡ xs → i < length items → x ≡ get_or items i x → slice_get xs i ≡ Some x
here xs items i x same within is = subst (λ l. slice_get l i ≡ Some x) same (slice_get_read items (length items) i x refl within is)

-- what a test reports, where it is known how it went
pub where_true : {P : Type 0} (Q : Type 0) (yes : Bool) → yes ≡ true → MatchBool yes P Q → P
where_true Q true is told = told
where_true Q false is told = absurd cc

pub where_false : (P : Type 0) {Q : Type 0} (yes : Bool) → yes ≡ false → MatchBool yes P Q → Q
where_false P true is told = absurd cc
where_false P false is told = told

below_or_last : (m n : ℕ) → m < n + 1 → (m < n) ⊎ (m ≡ n)
below_or_last m n h = grind arith

-- what holds of each element below a place, and of the one there, holds of each below the next
pub one_further : {X : Type 0} (P : X → Type 0) (xs : List X) (i : ℕ) (x : X) → slice_get xs i ≡ Some x → ((k : ℕ) (y : X) → k < i → slice_get xs k ≡ Some y → P y) → P x
    → (k : ℕ) (y : X) → k < i + 1 → slice_get xs k ≡ Some y → P y
one_further P xs i x at each last k y below is =
    elim (below_or_last k i below) [
      | inl less ↦ each k y less is
      | inr same ↦ subst P (same_Some x y (sym at ∙ sym (ap (slice_get xs) same) ∙ is)) last
    ]

-- what stands in a list stands where it is, behind one element more
stands : {X : Type 0} (xs : List X) (x : X) (ys : List X) → slice_get (xs ++ x ∷ ys) (length xs) ≡ Some x
stands [] x ys = refl
stands (z ∷ xs) x ys = stands xs x ys

-- an element of a list that got one more at its end is one of those before, or that one
pub before_or_last : {X : Type 0} (xs : List X) (x : X) (i : ℕ) (y : X) → slice_get (xs ++ x ∷ []) i ≡ Some y → (slice_get xs i ≡ Some y) ⊎ ((i ≡ length xs) × (x ≡ y))
before_or_last [] x zero y at = inr (refl, same_Some x y at)
before_or_last [] x (suc i) y at = absurd (let none : None ≡ Some y = at in cc)
before_or_last (z ∷ xs) x zero y at = inl at
before_or_last (z ∷ xs) x (suc i) y at = elim (before_or_last xs x i y at) [
  | inl before ↦ inl before
  | inr last ↦ inr (omega (arith, last.0), last.1)
]

-- each of these has its like at the same place of a list
abbrev pub EachHas : {X Y : Type 0} → (X → Y → Type 0) → List X → List Y → Type 0
EachHas {X} Like xs ys = (i : ℕ) (y : _) → slice_get ys i ≡ Some y → (x : X) × (slice_get xs i ≡ Some x) × Like x y

-- where each of some has its like, so has one more that is like the next of the list
one_more_like : {X Y : Type 0} (Like : X → Y → Type 0) (front : List X) (x : X) (rest : List X) (ys : List Y) (y : Y)
    → EachHas Like (front ++ x ∷ rest) ys → length ys ≡ length front → Like x y → EachHas Like (front ++ x ∷ rest) (ys ++ y ∷ [])
one_more_like Like front x rest ys y each count like i b at = elim (before_or_last ys y i b at) [
  | inl before ↦ each i b before
  | inr last ↦ (x, ap (slice_get (front ++ x ∷ rest)) (last.0 ∙ count) ∙ stands front x rest, subst (Like x) last.1 like)
]

-- what one turn keeps of a loop over a list, of which it has so many left, that puts a like of each at the end of another
pub one_turn : {X Y : Type 0} (Like : X → Y → Type 0) (xs front left rest : List X) (x : X) (ys new : List Y) (y : Y)
    → EachHas Like xs ys × (length ys ≡ length front) × (front ++ left ≡ xs) → left ≡ x ∷ rest → new ≡ ys ++ y ∷ [] → Like x y
    → EachHas Like xs new × (length new ≡ length (front ++ x ∷ [])) × ((front ++ x ∷ []) ++ rest ≡ xs)
one_turn {X} {Y} Like xs front left rest x ys new y kept next more like =
    let whole : front ++ x ∷ rest ≡ xs = ap (λ (l : List X). front ++ l) (sym next) ∙ kept.2 in
    let before : EachHas Like (front ++ x ∷ rest) ys = subst (λ (l : List X). EachHas Like l ys) (sym whole) kept.0 in
    let after : EachHas Like xs (ys ++ y ∷ []) = subst (λ (l : List X). EachHas Like l (ys ++ y ∷ [])) whole (one_more_like Like front x rest ys y before kept.1 like) in (
      subst (λ (l : List Y). EachHas Like xs l) (sym more) after,
      ap length more ∙ omega (arith, length-append ys (y ∷ []), length-append front (x ∷ []), kept.1),
      append_assoc front (x ∷ []) rest ∙ whole,
    )

-- ---- what is taken from a list, one after another

drop_head : {X : Type 0} (xs : List X) (n : ℕ) (x : X) (new : List X) → x ∷ new ≡ drop n xs → (slice_get xs n ≡ Some x) × (new ≡ drop (suc n) xs)
drop_head [] zero x new is = absurd (let none : x ∷ new ≡ [] = is in cc)
drop_head [] (suc n) x new is = absurd (let none : x ∷ new ≡ [] = is in cc)
drop_head {X} (y ∷ ys) zero x new is =
    let both : x ∷ new ≡ y ∷ ys = is in
    let head : x ≡ y = cc in
    let rest : new ≡ ys = cc in
    (ap {B = Option X} (λ z. Some z) (sym head), rest)
drop_head (y ∷ ys) (suc n) x new is = drop_head ys n x new is

drop_none : {X : Type 0} (xs : List X) (n : ℕ) → [] ≡ drop n xs → (slice_get xs n ≡ None) × ([] ≡ drop (suc n) xs)
drop_none [] zero is = (refl, refl)
drop_none [] (suc n) is = (refl, refl)
drop_none {X} (y ∷ ys) zero is = absurd (let some : [] ≡ y ∷ ys = is in cc)
drop_none (y ∷ ys) (suc n) is = drop_none ys n is

nothing_in : {X : Type 0} (xs : List X) → length xs ≡ 0 → xs ≡ []
nothing_in [] none = refl
nothing_in (x ∷ xs) none = absurd (omega (arith, none))

-- so many were taken from a list, of which these are left, and this is their number
abbrev pub HasLeft : {X : Type 0} → List X → ℕ → List X → ℕ → Type 0
HasLeft xs n left len = (left ≡ drop n xs) × (len ≡ length left)

-- the next that is taken stands behind those, or none is left
pub next_taken : {X : Type 0} (xs : List X) (n : ℕ) (old new : List X) (r : Option X) (len after : ℕ) → HasLeft xs n old len
    → old ≡ option_to_list r ++ new → after + length (option_to_list r) ≡ len → (0 < len → IsSome r) → (slice_get xs n ≡ r) × HasLeft xs (suc n) new after
next_taken xs n old new None len after has items count some =
    let none : len ≡ 0 = no_more len (λ more. let no : false ≡ true = some more in cc) in
    let empty : old ≡ [] = nothing_in old (sym has.1 ∙ none) in
    let end = drop_none xs n (sym empty ∙ has.0) in
    let left : new ≡ [] = sym items ∙ empty in
    (end.0, (left ∙ end.1, omega (arith, count, none) ∙ ap length (sym left)))
  where
    no_more : (len : ℕ) → (0 < len → ⊥) → len ≡ 0
    no_more zero not = refl
    no_more (suc len) not = absurd (not (omega arith))
next_taken xs n old new (Some x) len after has items count some =
    let next = drop_head xs n x new (sym items ∙ has.0) in
    let long : length old ≡ length new + 1 = ap length items ∙ omega arith in
    (next.0, (next.1, omega (arith, count, has.1, long)))

-- each fits what stands at its place of a list, or that nothing does
abbrev pub EachFits : {X Y : Type 0} → (Option X → Y → Type 0) → List X → List Y → Type 0
EachFits Fits xs ys = (i : ℕ) (y : _) → slice_get ys i ≡ Some y → Fits (slice_get xs i) y

pub fits_more : {X Y : Type 0} (Fits : Option X → Y → Type 0) (xs : List X) (ys new : List Y) (y : Y) (r : Option X) → EachFits Fits xs ys → slice_get xs (length ys) ≡ r → new ≡ ys ++ y ∷ []
    → Fits r y → EachFits Fits xs new
fits_more {X} {Y} Fits xs ys new y r each here more fit =
    subst (EachFits Fits xs) (sym more) (λ i other at. elim (before_or_last ys y i other at) [
      | inl before ↦ each i other before
      | inr last ↦ subst (Fits (slice_get xs i)) last.1 (subst (λ (found : Option X). Fits found y) (sym (ap (slice_get xs) last.0 ∙ here)) fit)
    ])

-- one was taken for the one that was put at the end of another list
pub left_more : {X Y : Type 0} (xs : List X) (ys new : List Y) (y : Y) (left : List X) (len : ℕ) → new ≡ ys ++ y ∷ [] → HasLeft xs (suc (length ys)) left len
    → HasLeft xs (length new) left len
left_more xs ys new y left len more has = subst (λ (n : ℕ). HasLeft xs n left len) (sym (ap length more ∙ length-append ys (y ∷ []) ∙ add-one (length ys))) has

-- a test of one of a list, and what it reports of the list
pub told_there : {X E : Type 0} (Right Wrong : X → Type 0) (xs : List X) (i : ℕ) (x : X) (told : Result Bool E) → slice_get xs i ≡ Some x → IfOk told (λ yes. MatchBool yes (Right x) (Wrong x))
    → IfOk told (λ yes. MatchBool yes ((y : X) × (slice_get xs i ≡ Some y) × Right y) ((slice_get xs i ≡ None) ⊎ ((y : X) × (slice_get xs i ≡ Some y) × Wrong y)))
told_there Right Wrong xs i x (Ok true) at told = (x, at, told)
told_there Right Wrong xs i x (Ok false) at told = inr (x, at, told)
told_there Right Wrong xs i x (Err fault) at told = tt

-- what is reported by what stands in a list is reported by what is read there
pub told_by : {X V E : Type 0} (Told : X → V → Type 0) (xs : List X) (i : ℕ) (x : X) (told : Result V E) → slice_get xs i ≡ Some x → IfOk told (Told x)
    → IfOk told (λ v. (y : X) × (slice_get xs i ≡ Some y) × Told y v)
told_by Told xs i x (Ok v) at told = (x, at, told)
told_by Told xs i x (Err fault) at told = tt

-- nothing is reported of a list where nothing is reported of what stands in it
pub untold_there : {X V E : Type 0} (Untold : X → Type 0) (xs : List X) (i : ℕ) (x : X) (told : Result V E) → slice_get xs i ≡ Some x → IfErr told (λ fault. Untold x)
    → IfErr told (λ fault. (y : X) × (slice_get xs i ≡ Some y) × Untold y)
untold_there Untold xs i x (Ok v) at untold = tt
untold_there Untold xs i x (Err fault) at untold = (x, at, untold)

-- whatever the fault was
pub at_fault : {V E : Type 0} (P : Type 0) (told : Result V E) → P → IfErr told (λ fault. P)
at_fault P (Ok v) holds = tt
at_fault P (Err fault) holds = holds

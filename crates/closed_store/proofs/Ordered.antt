-- Epochs in the order of their numbers: where any order of theirs has the numbers 1, 2 and so on, it is this one.
use Rattle.std.proofs.Common.{◌≡◌, ◌⊎◌, inl, inr, ℕ, zero, suc, ◌+◌, ◌-◌, ◌<◌, ◌≤◌, List, [], ◌∷◌, ◌++◌, length, map, sum_by, get_or, Some, refl, sym, ap, ◌∙◌, subst, arith}
use Rattle.std.specs.Prelude.{slice_get, IsPermutation, Contains}
use Rattle.std.specs.List.Sorted.{IsNonDecreasingBy}
use Rattle.std.proofs.lemmas.List.Sorted.{IsPermutation-sym, IsPermutation-trans, IsPermutation-map, Contains-permutation, length_permutation, sum_by-IsPermutation}
use Rattle.std.proofs.lemmas.Bool.{cases_lt}
use Rattle.std.proofs.lemmas.List.Sums.{sum_by-cons}
use Rattle.plain_store.specs.Words.{Room}
use Rattle.partition.specs.declared.journal.Epoch.{Epoch}
use Rattle.closed_store.specs.Joins.{AreInTurn}

-- ---- lists of numbers

-- no number is below this one
abbrev pub AreFrom : ℕ → List ℕ → Type 0
AreFrom low [] = Unit {0}
AreFrom low (x ∷ xs) = (low ≤ x) × AreFrom low xs

-- the numbers never fall
abbrev pub Climb : List ℕ → Type 0
Climb [] = Unit {0}
Climb (x ∷ xs) = AreFrom x xs × Climb xs

-- this number, the next one, and so on
abbrev CountUp : ℕ → List ℕ → Type 0
CountUp low [] = Unit {0}
CountUp low (x ∷ xs) = (x ≡ low) × CountUp (suc low) xs

are_from : {X : Type 0} (n : X → ℕ) (low : ℕ) (xs : List X) → ((j : ℕ) (d : X) → j < length xs → low ≤ n (get_or xs j d)) → AreFrom low (map n xs)
are_from n low [] h = tt
are_from n low (x ∷ xs) h = (h 0 x (omega arith), are_from n low xs (λ j d within. h (suc j) d (omega arith)))

climb : {X : Type 0} (n : X → ℕ) (xs : List X) → IsNonDecreasingBy n xs → Climb (map n xs)
climb n [] h = tt
climb n (x ∷ xs) h = (
  are_from n (n x) xs (λ j d within. h 0 (suc j) d (omega arith) (omega arith)),
  climb n xs (λ i j d le within. h (suc i) (suc j) d (omega arith) (omega arith)),
)

abbrev SameSums : List ℕ → List ℕ → Type 0
SameSums xs ys = (f : ℕ → ℕ) → sum_by f xs ≡ sum_by f ys

abbrev below : ℕ → ℕ → ℕ
below low n = low - n

abbrev is_it : ℕ → ℕ → ℕ
is_it low n = 1 - (n - low)

lower : (low more : ℕ) (xs : List ℕ) → low ≤ more → AreFrom more xs → AreFrom low xs
lower low more [] le h = tt
lower low more (x ∷ xs) le h = (omega (arith, h.0, le), lower low more xs le h.1)

from_count : (low : ℕ) (xs : List ℕ) → CountUp low xs → AreFrom low xs
from_count low [] h = tt
from_count low (x ∷ xs) h = (omega (arith, h.0), lower low (suc low) xs (omega arith) (from_count (suc low) xs h.1))

none_below : (low : ℕ) (xs : List ℕ) → AreFrom low xs → sum_by (below low) xs ≡ 0
none_below low [] h = refl
none_below low (x ∷ xs) h = let rest = none_below low xs h.1 in let here : below low x ≡ 0 = omega (arith, h.0) in omega (arith, rest, here, sum_by-cons (below low) x xs)

none_is : (low : ℕ) (xs : List ℕ) → AreFrom (suc low) xs → sum_by (is_it low) xs ≡ 0
none_is low [] h = refl
none_is low (x ∷ xs) h = let rest = none_is low xs h.1 in let here : is_it low x ≡ 0 = omega (arith, h.0) in omega (arith, rest, here, sum_by-cons (is_it low) x xs)

-- numbers that count up never fall
count_climbs : (low : ℕ) (xs : List ℕ) → CountUp low xs → Climb xs
count_climbs low [] h = tt
count_climbs low (x ∷ xs) h = (lower x (suc low) xs (omega (arith, h.0)) (from_count (suc low) xs h.1), count_climbs (suc low) xs h.1)

-- numbers that never fall and have the same sums as those that count up are these
same_count : (low : ℕ) (xs ys : List ℕ) → Climb xs → CountUp low ys → SameSums xs ys → CountUp low xs
same_count low [] ys up count same = tt
same_count low (x ∷ xs) [] up count same = absurd (let long : 1 + sum_by (λ (n : ℕ). 1) xs ≡ 0 = sym (sum_by-cons (λ (n : ℕ). 1) x xs) ∙ same (λ (n : ℕ). 1) in omega (arith, long))
same_count low (x ∷ xs) (y ∷ ys) up count same = (x_is, same_count (suc low) xs ys up.1 count.1 rest)
  where
    x_from : low ≤ x
    x_from = go (cases_lt x low)
      where
        go : (x < low) ⊎ (low ≤ x) → low ≤ x
        go (inr le) = le
        go (inl lt) =
            let none = none_below low (y ∷ ys) (from_count low (y ∷ ys) count) in
            let sums : (low - x) + sum_by (below low) xs ≡ 0 = sym (sum_by-cons (below low) x xs) ∙ same (below low) ∙ none in
            absurd (omega (arith, sums, lt))

    x_is : x ≡ low
    x_is = go (cases_lt low x)
      where
        go : (low < x) ⊎ (x ≤ low) → x ≡ low
        go (inr le) = omega (arith, le, x_from)
        go (inl lt) =
            let sums = sym (sum_by-cons (is_it low) x xs) ∙ same (is_it low) ∙ sum_by-cons (is_it low) y ys in
            let none = none_is low xs (lower (suc low) x xs (omega arith) up.0) in
            let here : is_it low x ≡ 0 = omega (arith, lt) in
            let there : is_it low y ≡ 1 = omega (arith, count.0) in
            absurd (omega (arith, sums, none, here, there))

    rest : SameSums xs ys
    rest f =
        let sums = sym (sum_by-cons f x xs) ∙ same f ∙ sum_by-cons f y ys in
        let first : f x ≡ f y = ap f (x_is ∙ sym count.0) in omega (arith, sums, first)

-- ---- lists of epochs

abbrev pub number_of : Epoch → ℕ
number_of epoch = epoch.number

abbrev pub numbers : List Epoch → List ℕ
numbers epochs = map number_of epochs

number_from : (low : ℕ) (epochs : List Epoch) (x : Epoch) → AreFrom low (numbers epochs) → Contains epochs x → low ≤ x.number
number_from low [] x from member = absurd (omega (arith, member.1))
number_from low (e ∷ es) x from (zero, within, is) = subst (λ (y : Epoch). low ≤ y.number) is from.0
number_from low (e ∷ es) x from (suc k, within, is) = number_from low es x from.1 (k, omega arith, is)

member_cases : (y : Epoch) (ys : List Epoch) (x : Epoch) → Contains (y ∷ ys) x → (y ≡ x) ⊎ Contains ys x
member_cases y ys x (zero, within, is) = inl is
member_cases y ys x (suc k, within, is) = inr (k, omega arith, is)

-- epochs that count up alike and have the same members are the same
same_epochs : (low : ℕ) (xs ys : List Epoch) → CountUp low (numbers xs) → CountUp low (numbers ys) → length xs ≡ length ys
    → ((x : Epoch) → Contains xs x → Contains ys x) → xs ≡ ys
same_epochs low [] [] one two long all = refl
same_epochs low [] (y ∷ ys) one two long all = absurd (omega (arith, long))
same_epochs low (x ∷ xs) [] one two long all = absurd (omega (arith, long))
same_epochs low (x ∷ xs) (y ∷ ys) one two long all =
    let later = same_epochs (suc low) xs ys one.1 two.1 (omega (arith, long)) still in
    λ i. first i ∷ later i
  where
    later_from : AreFrom (suc low) (numbers ys)
    later_from = from_count (suc low) (numbers ys) two.1

    first : x ≡ y
    first = elim (member_cases y ys x (all x (0, omega arith, refl))) [
      | inl same ↦ sym same
      | inr member ↦ absurd (let high = number_from (suc low) ys x later_from member in let low_is : x.number ≡ low = one.0 in omega (arith, high, low_is))
    ]

    still : (z : Epoch) → Contains xs z → Contains ys z
    still z member = elim (member_cases y ys z (all z (suc member.0, omega (arith, member.1), member.2))) [
      | inl same ↦ absurd (let high = number_from (suc low) xs z (from_count (suc low) (numbers xs) one.1) member in let z_is : y.number ≡ z.number = ap number_of same in let low_is : y.number ≡ low = two.0 in omega (arith, high, z_is, low_is))
      | inr there ↦ there
    ]

pub get_left : {X : Type 0} (xs ys : List X) (k : ℕ) (x : X) → slice_get xs k ≡ Some x → slice_get (xs ++ ys) k ≡ Some x
get_left [] ys k x at = absurd (cc)
get_left (y ∷ xs) ys zero x at = at
get_left (y ∷ xs) ys (suc k) x at = get_left xs ys k x at

count_up : (low : ℕ) (epochs : List Epoch) → ((place : ℕ) (epoch : Epoch) → slice_get epochs place ≡ Some epoch → epoch.number ≡ place + low) → CountUp low (numbers epochs)
count_up low [] h = tt
count_up low (e ∷ es) h = (let is = h 0 e refl in omega (arith, is), count_up (suc low) es (λ place epoch at. let is = h (suc place) epoch at in omega (arith, is)))

-- the numbers of epochs behind references
pub rising_numbers : {X : Type 0} → (behind : X → Epoch) (xs : List X) → IsNonDecreasingBy (λ (x : X). (behind x).number) xs → Climb (numbers (map behind xs))
rising_numbers {X} behind xs up = subst Climb (compose xs) (climb (λ x. (behind x).number) xs up)
  where
    compose : (ys : List X) → map (λ (x : X). (behind x).number) ys ≡ numbers (map behind ys)
    compose [] = refl
    compose (y ∷ ys) = ap (λ ns. (behind y).number ∷ ns) (compose ys)

-- an order in which epochs are in turn, before one more, is the order of their numbers
pub one_order : (room : Room) (given sorted ordered : List Epoch) (left : Epoch) → IsPermutation given sorted → IsPermutation given ordered
    → Climb (numbers sorted) → AreInTurn room (ordered ++ left ∷ []) → sorted ≡ ordered
one_order room given sorted ordered left one two up start =
    let between = IsPermutation-trans sorted given ordered (IsPermutation-sym given sorted one) two in
    let counts = count_up 1 ordered (λ place epoch at. (start place epoch (get_left ordered (left ∷ []) place epoch at)).numbered) in
    let sums : SameSums (numbers sorted) (numbers ordered) = λ f. sym (sum_by-IsPermutation f (numbers sorted) (numbers ordered) (IsPermutation-map number_of sorted ordered between)) in
    let climbs = same_count 1 (numbers sorted) (numbers ordered) up counts sums in
    same_epochs 1 sorted ordered climbs counts (sym (length_permutation sorted ordered between)) (λ x. Contains-permutation sorted ordered x between)

-- there is one order alone in which epochs are in turn, before one more
pub same_order : (room : Room) (given one two : List Epoch) (left : Epoch) → IsPermutation given one → IsPermutation given two
    → AreInTurn room (one ++ left ∷ []) → AreInTurn room (two ++ left ∷ []) → one ≡ two
same_order room given one two left first second start start' =
    let counts = count_up 1 one (λ place epoch at. (start place epoch (get_left one (left ∷ []) place epoch at)).numbered) in
    one_order room given one two left first second (count_climbs 1 (numbers one) counts) start'

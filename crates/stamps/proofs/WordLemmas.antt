-- Byte order by words: of eight bytes it is the order of the number of which the first byte is the highest, and of texts
-- that of their arrays, filled up with zeros.
use Rattle.std.proofs.Common.{◌≡◌, ℕ, zero, suc, ◌+◌, ◌*◌, ◌^◌, ◌<◌, List, [], ◌∷◌, ◌++◌, length, length-append, get_or, replicate, Ordering, refl, sym, ap, ◌∙◌, arith}
use Rattle.std.specs.Cmp.{nat_cmp_is, ranks}
use Rattle.std.specs.Cmp.Lexicographic.{slice_cmp}
use Rattle.std.specs.Int.{w64, from_be_bytes}
use Rattle.std.specs.Ordering.{nat_cmp, ordering_then}
use Rattle.std.specs.declared.cmp.Ordering.TheVariants.{Less, Equal, Greater}
use Rattle.std.proofs.lemmas.Cmp.{by_ranked}
use Rattle.std.proofs.lemmas.List.{length-replicate}
use Rattle.std.proofs.Math.Nat.{pow-suc}
use Rattle.std.proofs.lemmas.Nat.{mul-add-lt, mul-le}

-- ---- numbers by their bytes

abbrev number : List ℕ → ℕ
number [] = 0
number (x ∷ xs) = x * 256 ^ length xs + number xs

abbrev AreBytes : List ℕ → Type 0
AreBytes xs = (i : ℕ) → get_or xs i 0 < 256

number_below : (xs : List ℕ) → AreBytes xs → number xs < 256 ^ length xs
number_below [] small = omega arith
number_below (x ∷ xs) small =
    let w = 256 ^ length xs in
    let rest = number_below xs (λ i. small (suc i)) in
    let longer : 256 ^ length (x ∷ xs) ≡ w * 256 = pow-suc 256 (length xs) in
    omega (arith, longer, mul-add-lt x w (number xs) 256 (small 0) rest)

higher : (x y m n w : ℕ) → x < y → m < w → x * w + m < y * w + n
higher x y m n w less small = omega (arith, mul-le (x + 1) w y w (omega arith) (omega arith))

at_place : (x y m n w : ℕ) → m < w → n < w → nat_cmp (x * w + m) (y * w + n) ≡ ordering_then (nat_cmp x y) (nat_cmp m n)
at_place x y m n w small small_too =
    by_ranked (x < y) (x ≡ y) (y < x) (nat_cmp x y) (ranks x y)
    (λ is less. sym (nat_cmp_is (x * w + m) (y * w + n) Less (higher x y m n w less small)) ∙ ap (λ o. ordering_then o (nat_cmp m n)) (sym is))
    (λ is same. lower is same)
    (λ is less. sym (nat_cmp_is (x * w + m) (y * w + n) Greater (higher y x n m w less small_too)) ∙ ap (λ o. ordering_then o (nat_cmp m n)) (sym is))
  where
    lower : nat_cmp x y ≡ Equal → x ≡ y → nat_cmp (x * w + m) (y * w + n) ≡ ordering_then (nat_cmp x y) (nat_cmp m n)
    lower is same =
        let level : x * w ≡ y * w = ap (λ k. k * w) same in
        by_ranked (m < n) (m ≡ n) (n < m) (nat_cmp m n) (ranks m n)
        (λ at less. sym (nat_cmp_is (x * w + m) (y * w + n) Less (omega arith)) ∙ sym at ∙ ap (λ o. ordering_then o (nat_cmp m n)) (sym is))
        (λ at even. sym (nat_cmp_is (x * w + m) (y * w + n) Equal (omega arith)) ∙ sym at ∙ ap (λ o. ordering_then o (nat_cmp m n)) (sym is))
        (λ at less. sym (nat_cmp_is (x * w + m) (y * w + n) Greater (omega arith)) ∙ sym at ∙ ap (λ o. ordering_then o (nat_cmp m n)) (sym is))

number_order : (xs ys : List ℕ) → length xs ≡ length ys → AreBytes xs → AreBytes ys → nat_cmp (number xs) (number ys) ≡ slice_cmp nat_cmp xs ys
number_order [] [] long small small_too = refl
number_order [] (y ∷ ys) long small small_too = absurd (omega arith)
number_order (x ∷ xs) [] long small small_too = absurd (omega arith)
number_order (x ∷ xs) (y ∷ ys) long small small_too =
    let same : length xs ≡ length ys = omega arith in
    let rest = λ (i : ℕ). small (suc i) in
    let rest_too = λ (i : ℕ). small_too (suc i) in
    let below : number xs < 256 ^ length ys = rw (← same) (number_below xs rest) in
    ap (λ n. nat_cmp (x * 256 ^ n + number xs) (y * 256 ^ length ys + number ys)) same
    ∙ at_place x y (number xs) (number ys) (256 ^ length ys) below (number_below ys rest_too)
    ∙ ap (ordering_then (nat_cmp x y)) (number_order xs ys same rest rest_too)

number_8 : (bs : List ℕ) → length bs ≡ 8 → from_be_bytes w64 bs ≡ number bs
number_8 [] l = absurd (omega arith)
number_8 (a ∷ []) l = absurd (omega arith)
number_8 (a ∷ b ∷ []) l = absurd (omega arith)
number_8 (a ∷ b ∷ c ∷ []) l = absurd (omega arith)
number_8 (a ∷ b ∷ c ∷ d ∷ []) l = absurd (omega arith)
number_8 (a ∷ b ∷ c ∷ d ∷ e ∷ []) l = absurd (omega arith)
number_8 (a ∷ b ∷ c ∷ d ∷ e ∷ f ∷ []) l = absurd (omega arith)
number_8 (a ∷ b ∷ c ∷ d ∷ e ∷ f ∷ g ∷ []) l = absurd (omega arith)
number_8 (a ∷ b ∷ c ∷ d ∷ e ∷ f ∷ g ∷ h ∷ []) l = omega arith
number_8 (a ∷ b ∷ c ∷ d ∷ e ∷ f ∷ g ∷ h ∷ x ∷ bs) l = absurd (omega arith)

pub word_order : (xs ys : List ℕ) → length xs ≡ 8 → length ys ≡ 8 → AreBytes xs → AreBytes ys
    → nat_cmp (from_be_bytes w64 xs) (from_be_bytes w64 ys) ≡ slice_cmp nat_cmp xs ys
word_order xs ys eight eight_too small small_too =
    (λ i. nat_cmp (number_8 xs eight i) (number_8 ys eight_too i)) ∙ number_order xs ys (omega arith) small small_too

then_then : (a b c : Ordering) → ordering_then (ordering_then a b) c ≡ ordering_then a (ordering_then b c)
then_then Less b c = refl
then_then Equal b c = refl
then_then Greater b c = refl

-- ---- texts that are filled up with zeros

none_below_zeros : (n : ℕ) (ys : List ℕ) → n ≡ length ys → ordering_then (slice_cmp nat_cmp (replicate n 0) ys) Less ≡ Less
none_below_zeros zero [] long = refl
none_below_zeros zero (y ∷ ys) long = absurd (omega arith)
none_below_zeros (suc n) [] long = absurd (omega arith)
none_below_zeros (suc n) (zero ∷ ys) long = none_below_zeros n ys (omega arith)
none_below_zeros (suc n) (suc y ∷ ys) long =
    ap (λ o. ordering_then (ordering_then o (slice_cmp nat_cmp (replicate n 0) ys)) Less) (sym (nat_cmp_is 0 (suc y) Less (omega arith)))

none_above_zeros : (xs : List ℕ) (n : ℕ) → n ≡ length xs → ordering_then (slice_cmp nat_cmp xs (replicate n 0)) Greater ≡ Greater
none_above_zeros [] zero long = refl
none_above_zeros (x ∷ xs) zero long = absurd (omega arith)
none_above_zeros [] (suc n) long = absurd (omega arith)
none_above_zeros (zero ∷ xs) (suc n) long = none_above_zeros xs n (omega arith)
none_above_zeros (suc x ∷ xs) (suc n) long =
    ap (λ o. ordering_then (ordering_then o (slice_cmp nat_cmp xs (replicate n 0))) Greater) (sym (nat_cmp_is (suc x) 0 Greater (omega arith)))

even_zeros : (n : ℕ) → slice_cmp nat_cmp (replicate n 0) (replicate n 0) ≡ Equal
even_zeros zero = refl
even_zeros (suc n) = even_zeros n

next_lengths : (m n : ℕ) → nat_cmp (suc m) (suc n) ≡ nat_cmp m n
next_lengths m n =
    by_ranked (m < n) (m ≡ n) (n < m) (nat_cmp m n) (ranks m n)
    (λ at less. sym (nat_cmp_is (suc m) (suc n) Less (omega arith)) ∙ sym at)
    (λ at even. sym (nat_cmp_is (suc m) (suc n) Equal (omega arith)) ∙ sym at)
    (λ at less. sym (nat_cmp_is (suc m) (suc n) Greater (omega arith)) ∙ sym at)

filled_length : (ys : List ℕ) (l : ℕ) → length (ys ++ replicate l 0) ≡ length ys + l
filled_length ys l = omega (arith, length-append ys (replicate l 0), length-replicate {A = ℕ} l 0)

-- the arrays decide, or else the lengths
pub order_filled : (xs ys : List ℕ) (k l : ℕ) → length xs + k ≡ length ys + l
    → ordering_then (slice_cmp nat_cmp (xs ++ replicate k 0) (ys ++ replicate l 0)) (nat_cmp (length xs) (length ys)) ≡ slice_cmp nat_cmp xs ys
order_filled [] [] k l long =
    let same : k ≡ l = omega arith in
    (λ i. ordering_then (slice_cmp nat_cmp (replicate (same i) 0) (replicate l 0)) Equal) ∙ ap (λ o. ordering_then o Equal) (even_zeros l)
order_filled [] (y ∷ ys) k l long =
    ap (ordering_then (slice_cmp nat_cmp (replicate k 0) (y ∷ ys ++ replicate l 0))) (sym (nat_cmp_is 0 (suc (length ys)) Less (omega arith)))
    ∙ none_below_zeros k (y ∷ ys ++ replicate l 0) (omega (arith, long, filled_length ys l))
order_filled (x ∷ xs) [] k l long =
    ap (ordering_then (slice_cmp nat_cmp (x ∷ xs ++ replicate k 0) (replicate l 0))) (sym (nat_cmp_is (suc (length xs)) 0 Greater (omega arith)))
    ∙ none_above_zeros (x ∷ xs ++ replicate k 0) l (omega (arith, long, filled_length xs k))
order_filled (x ∷ xs) (y ∷ ys) k l long =
    let rest = slice_cmp nat_cmp (xs ++ replicate k 0) (ys ++ replicate l 0) in
    ap (ordering_then (ordering_then (nat_cmp x y) rest)) (next_lengths (length xs) (length ys))
    ∙ then_then (nat_cmp x y) rest (nat_cmp (length xs) (length ys))
    ∙ ap (ordering_then (nat_cmp x y)) (order_filled xs ys k l (omega arith))

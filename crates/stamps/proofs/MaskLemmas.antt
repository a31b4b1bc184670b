-- The first bytes of an array, and zeros behind them, by a mask of ones and zeros.
use Rattle.std.proofs.Common.{◌≡◌, ℕ, zero, suc, ◌+◌, ◌-◌, ◌%◌, ◌<◌, ◌≤◌, List, [], ◌∷◌, ◌++◌, length, take, drop, get_or, replicate, bit_and, Option, Some, refl, sym, ap, subst, ◌∙◌, append_assoc, append-nil, length-take-le, length-drop, take_all, arith}
use Rattle.std.specs.Array.{IsFirstChunk}
use Rattle.std.specs.Int.Bits.{and_zero_r}
use Rattle.std.specs.Option.{MatchOption}
use Rattle.std.proofs.lemmas.Grind.{and_numeral}
use Rattle.std.proofs.lemmas.List.{take_at, drop_at, length-replicate, replicate-append-replicate, take-replicate}
use Rattle.std.proofs.Math.Seq.{take-append-add}
use lib.Lanes.{zip2}

kept : (byte : ℕ) → byte < 256 → bit_and byte 255 ≡ byte
kept byte small =
    let low : byte % 256 ≡ byte = omega (arith, small) in and_numeral byte 254 refl ∙ low

pub masked_front : (bytes : List ℕ) (len more : ℕ) → length bytes ≡ len + more → ((i : ℕ) → get_or bytes i 0 < 256)
    → zip2 bit_and bytes (replicate len 255 ++ replicate more 0) ≡ take len bytes ++ replicate more 0
masked_front [] zero zero long small = refl
masked_front [] zero (suc more) long small = absurd (omega (arith, long))
masked_front [] (suc len) more long small = absurd (omega (arith, long))
masked_front (byte ∷ bytes) zero zero long small = absurd (omega (arith, long))
masked_front (byte ∷ bytes) zero (suc more) long small =
    λ i. and_zero_r byte i ∷ masked_front bytes zero more (omega (arith, long)) (λ n. small (suc n)) i
masked_front (byte ∷ bytes) (suc len) more long small =
    λ i. kept byte (small 0) i ∷ masked_front bytes len more (omega (arith, long)) (λ n. small (suc n)) i

-- what a mask keeps of an array
module _ (front mask : List ℕ) (len n : ℕ) (fits : len ≤ n) (long : length front ≡ n) (small : (i : ℕ) → get_or front i 0 < 256)
    (mask_is : mask ≡ replicate len 255 ++ replicate (n - len) 0) where
  kept_is : zip2 bit_and front mask ≡ take len front ++ replicate (n - len) 0
  kept_is = ap (zip2 bit_and front) mask_is ∙ masked_front front len (n - len) (omega (arith, fits, long)) small

  pub kept_front : take len (zip2 bit_and front mask) ≡ take len front
  kept_front = ap (take len) kept_is ∙ take_at (take len front) (replicate (n - len) 0) len (length-take-le len front (omega (arith, fits, long)))

  pub kept_zeros : drop len (zip2 bit_and front mask) ≡ replicate (n - len) 0
  kept_zeros = ap (drop len) kept_is ∙ drop_at (take len front) (replicate (n - len) 0) len (length-take-le len front (omega (arith, fits, long)))

-- the mask of the first ones lies at the seam of ones and zeros
pub mask_at : (most len n : ℕ) → len ≤ n → n ≤ most
    → take {A = ℕ} n (drop (most - len) (replicate most 255 ++ replicate most 0)) ≡ replicate len 255 ++ replicate (n - len) 0
mask_at most len n fits small =
    let sum : most ≡ (most - len) + len = omega (arith, fits, small) in
    let ones : replicate {A = ℕ} most 255 ≡ replicate (most - len) 255 ++ replicate len 255 =
    ap (λ m. replicate m 255) sum ∙ sym (replicate-append-replicate (most - len) len 255) in
    let zeros = replicate {A = ℕ} most 0 in
    let whole : replicate {A = ℕ} most 255 ++ zeros ≡ replicate (most - len) 255 ++ (replicate len 255 ++ zeros) =
    ap (λ xs. xs ++ zeros) ones ∙ append_assoc (replicate (most - len) 255) (replicate len 255) zeros in
    let count : n ≡ length (replicate {A = ℕ} len 255) + (n - len) = omega (arith, fits, length-replicate {A = ℕ} len 255) in
    ap (λ xs. take n (drop (most - len) xs)) whole
    ∙ ap (take n) (drop_at (replicate (most - len) 255) (replicate len 255 ++ zeros) (most - len) (length-replicate (most - len) 255))
    ∙ ap (λ m. take m (replicate len 255 ++ zeros)) count ∙ take-append-add (replicate len 255) zeros (n - len)
    ∙ ap (λ xs. replicate len 255 ++ xs) (take-replicate (n - len) most 0 (omega (arith, small)))

half : (n : ℕ) (xs : List ℕ) → length xs ≡ n + n → take n (take n (drop n xs)) ≡ drop n xs
half n xs long =
    let rest : take n (drop n xs) ≡ drop n xs = take_all n (drop n xs) (omega (arith, long, length-drop n xs)) in
    ap (take n) rest ∙ rest

-- the first chunk that was found
pub chunk_is : {B : Type 0} (now : B → List ℕ) (found : Option B) (x : B) (xs : List ℕ) (n : ℕ) (None : Type 0) → found ≡ Some x
    → MatchOption found None (λ y. IsFirstChunk xs (now y) n) → now x ≡ take n xs
chunk_is now found x xs n None is cases = (subst (λ o. MatchOption o None (λ y. IsFirstChunk xs (now y) n)) is cases).same

-- what is made of pairs
module _ (f : ℕ → ℕ → ℕ) where
  no_pairs : (xs : List ℕ) → zip2 f xs [] ≡ []
  no_pairs [] = refl
  no_pairs (x ∷ xs) = refl

  as_many : (xs ys : List ℕ) → length xs ≡ length ys → length (zip2 f xs ys) ≡ length xs
  as_many [] ys same = refl
  as_many (x ∷ xs) [] same = absurd (omega (arith, same))
  as_many (x ∷ xs) (y ∷ ys) same = ap suc (as_many xs ys (omega (arith, same)))

  split : (n : ℕ) (xs ys : List ℕ) → zip2 f (take n xs) (take n ys) ++ zip2 f (drop n xs) (drop n ys) ≡ zip2 f xs ys
  split zero xs ys = refl
  split (suc n) [] ys = refl
  split (suc n) (x ∷ xs) [] = no_pairs (drop n xs)
  split (suc n) (x ∷ xs) (y ∷ ys) = λ i. f x y ∷ split n xs ys i

  -- it is made half by half
  pub both_halves : (n : ℕ) (xs ys : List ℕ) → length xs ≡ n + n → length ys ≡ n + n
      → take (n + n) (zip2 f (take n xs) (take n ys) ++ (zip2 f (take n (take n (drop n xs))) (take n (take n (drop n ys))) ++ [])) ≡ zip2 f xs ys
  both_halves n xs ys long same =
      let first = zip2 f (take n xs) (take n ys) in
      ap (λ (rest : List ℕ). take (n + n) (first ++ rest)) (append-nil _)
      ∙ (λ i. take (n + n) (first ++ zip2 f (half n xs long i) (half n ys same i)))
      ∙ ap (take (n + n)) (split n xs ys)
      ∙ take_all (n + n) (zip2 f xs ys) (omega (arith, long, same, as_many xs ys (long ∙ sym same)))

-- For `ChangedChains`. Which chains are noted, beside the list of their numbers.
use mathlib.Core.Bool.{or-false}
use Rattle.std.proofs.Common.{◌≡◌, ℕ, zero, suc, inl, inr, ◌+◌, ◌<◌, ◌≤◌, ◌==◌, Bool, true, false, cond, List, [], ◌∷◌, ◌++◌, length, get_or, set, count_by, All, ◌||◌, refl, sym, ◌∙◌, ap, arith}
use Rattle.std.proofs.Math.ListN.{get_or-eq_default}
use Rattle.std.proofs.lemmas.Bool.{both_ways, eqb-true, eqb-false, eq-eqb, ne_eqb, cases_lt}
use Rattle.std.proofs.lemmas.Bool.Decides.{nat_tests}
use Rattle.std.proofs.lemmas.Grind.{elements}
use Rattle.std.proofs.lemmas.List.{length-set, length_push}
use Rattle.std.proofs.lemmas.List.Sums.{sum_by-set, count_by-le-length}
use Rattle.std.specs.List.{list_any}
use Rattle.plain_store.proofs.Counting.{counted as one_counted, uncounted, any_is, any_in, count_by-cons, count_by-push}
use Rattle.prepare_commit.specs.Remembered.{AreNoted}

past_end : (flags : List Bool) (n : ℕ) → length flags ≤ n → get_or flags n false ≡ false
past_end flags n end = get_or-eq_default flags false end

-- what is set where
pub set_at : (flags : List Bool) (chain : ℕ) (b : Bool) (n : ℕ) → chain < length flags → get_or (set flags chain b) n false ≡ cond (n == chain) b (get_or flags n false)
set_at flags chain b n within = grind (arith, nat_tests, elements)

module _ (flags : List Bool) (numbers : List ℕ) (noted : AreNoted flags numbers) (chain : ℕ) (within : chain < length flags) where
  -- and there is room for its number
  pub room_left : get_or flags chain false ≡ false → length numbers < length flags
  room_left was =
      omega (arith, noted.many, sum_by-set (λ b. cond b 1 0) flags chain true false within, ap {B = ℕ} (λ b. cond b 1 0) was, count_by-le-length (λ b. b) (set flags chain true), length-set flags chain true)

module _ (flags : List Bool) (numbers rest : List ℕ) (noted : AreNoted flags numbers) (chain : ℕ) (is : numbers ≡ rest ++ chain ∷ []) where
  counted : (n : ℕ) → count_by (λ m. m == n) numbers ≡ cond (chain == n) 1 0 + count_by (λ m. m == n) rest
  counted n = ap (count_by (λ m. m == n)) is ∙ count_by-push (λ m. m == n) chain rest ∙ count_by-cons (λ m. m == n) chain rest

  -- the last one is noted
  pub last_noted : get_or flags chain false ≡ true
  last_noted = grind (arith, nat_tests, counted chain, noted.once chain)

  pub last_within : chain < length flags
  last_within = elim (cases_lt chain (length flags)) [
    | inl less ↦ less
    | inr more ↦ absurd (let untrue : false ≡ true = sym (past_end flags chain more) ∙ last_noted in cc)
  ]

  -- and the others are without it
  pub rest_noted : AreNoted (set flags chain false) rest
  rest_noted = record {
    once = λ n. grind (arith, nat_tests, counted n, noted.once n, set_at flags chain false n last_within, last_noted);
    many = omega (arith, ap length is, length_push rest chain, noted.many, sum_by-set (λ b. cond b 1 0) flags chain false false last_within, ap {B = ℕ} (λ b. cond b 1 0) last_noted);
  }

-- fewer are noted
pub fewer_noted : (flags : List Bool) (chain : ℕ) → chain < length flags → get_or flags chain false ≡ true → count_by (λ b. b) (set flags chain false) < count_by (λ b. b) flags
fewer_noted flags chain within was = omega (arith, sum_by-set (λ b. cond b 1 0) flags chain false false within, ap {B = ℕ} (λ b. cond b 1 0) was)

-- one more of some, beside what was noted before
pub noted_each : (flags : List Bool) (was any : Bool) (chain n : ℕ) → chain < length flags → get_or flags n false ≡ (was || any) → get_or (set flags chain true) n false ≡ (was || (any || (chain == n)))
noted_each flags was any chain n within so_far = set_at flags chain true n within ∙ by (n == chain) refl
  where
    true_last : (a b : Bool) → (a || (b || true)) ≡ true
    true_last true b = refl
    true_last false true = refl
    true_last false false = refl

    by : (b : Bool) → (n == chain) ≡ b → cond b true (get_or flags n false) ≡ (was || (any || (chain == n)))
    by true e = sym (ap (λ t. was || (any || t)) (eq-eqb chain n (sym (eqb-true n chain e))) ∙ true_last was any)
    by false e = so_far ∙ ap (λ t. was || t) (sym (ap (λ t. any || t) (ne_eqb chain n (λ same. eqb-false n chain e (sym same))) ∙ or-false any))

at_place : (xs : List ℕ) (k d : ℕ) → k < length xs → 0 < count_by (λ m. m == get_or xs k d) xs
at_place [] k d within = absurd (omega (arith, within))
at_place (x ∷ xs) zero d within = omega (arith, count_by-cons (λ m. m == x) x xs, ap {B = ℕ} (λ b. cond b 1 0) (eq-eqb x x refl))
at_place (x ∷ xs) (suc k) d within =
    let later = at_place xs k d (omega (arith, within)) in
    omega (arith, count_by-cons (λ m. m == get_or xs k d) x xs, later)

-- the numbers are those of noted chains
pub each_within : (flags : List Bool) (numbers : List ℕ) → AreNoted flags numbers → All (λ (n : ℕ). n < length flags) numbers
each_within flags numbers noted k d within = elim (cases_lt (get_or numbers k d) (length flags)) [
  | inl less ↦ less
  | inr more ↦
      let n = get_or numbers k d in
      let none = ap {B = ℕ} (λ b. cond b 1 0) (past_end flags n more) in
      let there = at_place numbers k d within in
      absurd (omega (arith, noted.once n, none, there))
]

-- where the number of a chain is not among them, it is not noted
pub not_among : (flags : List Bool) (numbers : List ℕ) (chain : ℕ) → AreNoted flags numbers → list_any (λ n. n == chain) numbers ≡ false → get_or flags chain false ≡ false
not_among flags numbers chain noted none = by (get_or flags chain false) refl
  where
    by : (b : Bool) → get_or flags chain false ≡ b → b ≡ false
    by false e = refl
    by true e =
        let one = ap {B = ℕ} (λ b. cond b 1 0) e in
        let there = one_counted (λ n. n == chain) numbers (omega (arith, noted.once chain, one)) in
        absurd (both_ways (list_any (λ n. n == chain) numbers) none (any_is (λ n. n == chain) numbers there.0 there.1 there.2))

-- a chain is noted where its number is among them
pub among : (flags : List Bool) (numbers : List ℕ) (chain : ℕ) → AreNoted flags numbers → list_any (λ n. n == chain) numbers ≡ get_or flags chain false
among flags numbers chain noted = by (list_any (λ n. n == chain) numbers) refl
  where
    is_set : (b : Bool) → 0 < count_by (λ n. n == chain) numbers → get_or flags chain false ≡ b → b ≡ true
    is_set true some e = refl
    is_set false some e = absurd (omega (arith, noted.once chain, ap {B = ℕ} (λ b. cond b 1 0) e, some))

    by : (b : Bool) → list_any (λ n. n == chain) numbers ≡ b → b ≡ get_or flags chain false
    by false e = sym (not_among flags numbers chain noted e)
    by true e =
        let there = any_in (λ n. n == chain) numbers e in
        sym (is_set (get_or flags chain false) (uncounted (λ n. n == chain) there.0 numbers there.1 there.2) refl)

-- Numerals: digits without a leading zero are what a number is printed as.
use Rattle.std.proofs.Common.{◌≡◌, ℕ, ◌^◌, ◌<◌, ◌≤◌, true, false, ◌&&◌, leb, List, [], ◌∷◌, length, get_or, Some, None, Result, Ok, Err, refl, sym, ap, subst, ◌∙◌, arith, rules, inl, inr}
use Rattle.std.specs.Prelude.{decimal, MatchResult}
use Rattle.std.specs.Result.{result_ok}
use Rattle.std.specs.Borrow.{Bor}
use Rattle.std.specs.Str.Parse.{digits_value, ParsesUnsigned}
use Rattle.std.proofs.lemmas.Str.Parse.{IsNumeralModel, numerals_by_value, parse_digits}
use Rattle.std.proofs.lemmas.Fmt.{decimal-digits_value, digits_decimal, digits_value-decimal, decimal_digit, first_decimal, decimal_nonempty}
use Rattle.std.proofs.lemmas.Option.{cond_some, same_Some}
use Rattle.std.proofs.lemmas.Fmt.{IsAscii-from_digits}
use Rattle.std.specs.Str.{IsUtf8}
use Rattle.std.proofs.lemmas.Str.{IsUtf8-from_ascii}
use Rattle.std.proofs.lemmas.Bool.{and_parts, and_from, and_right, leb-true, le-leb, lt-leb, cases_lt}
use Rattle.stamps.specs.Text.{is_between}
use Rattle.line_protocol.specs.Reading.{all_digits, is_numeral, number_at}

pub own : IsNumeralModel (λ ds. all_digits ds ≡ true) (digits_value 10)
own = numerals_by_value _ (search rules)

-- a numeral has digits, and no leading zero
pub record IsPlain (text : List ℕ) : Type 0 where
  pub digits : all_digits text ≡ true
  pub some : 0 < length text
  pub zero : get_or text 0 0 ≡ 48 → length text ≡ 1

digit_above : (d : ℕ) → is_between 49 57 d ≡ true → (is_between 48 57 d ≡ true) × (48 < d)
digit_above d h =
    let p = and_parts (leb 49 d) (leb d 57) h in
    let low = leb-true 49 d p.0 in
    (and_from (leb 48 d) (leb d 57) (le-leb 48 d (omega arith)) p.1, omega arith)

pub numeral_is_plain : (text : List ℕ) → is_numeral text ≡ true → IsPlain text
numeral_is_plain [] h = absurd cc
numeral_is_plain (d ∷ []) h = record { digits = and_from (is_between 48 57 d) true h refl; some = omega arith; zero = λ _. refl }
numeral_is_plain (f ∷ s ∷ others) h =
    let p = and_parts (is_between 49 57 f) (all_digits (s ∷ others)) h in
    let a = digit_above f p.0 in
    record { digits = and_from (is_between 48 57 f) (all_digits (s ∷ others)) a.0 p.1; some = omega arith; zero = λ e. absurd (omega (arith, a.1)) }

plain_is_numeral : (text : List ℕ) → all_digits text ≡ true → 0 < length text → 48 < get_or text 0 0 → is_numeral text ≡ true
plain_is_numeral [] d some above = absurd (omega arith)
plain_is_numeral (x ∷ []) d some above = (and_parts (is_between 48 57 x) true d).0
plain_is_numeral (f ∷ s ∷ others) d some above =
    let p = and_parts (is_between 48 57 f) (all_digits (s ∷ others)) d in
    let q = and_parts (leb 48 f) (leb f 57) p.0 in
    and_from (is_between 49 57 f) (all_digits (s ∷ others)) (and_from (leb 49 f) (leb f 57) (le-leb 49 f (omega arith)) q.1) p.1

numeral-decimal : (n : ℕ) → n < 2 ^ 64 → is_numeral (decimal n) ≡ true
numeral-decimal n lt =
    elim (cases_lt 0 n) [
      | inl above ↦ plain_is_numeral (decimal n) (digits_decimal own n lt) (decimal_nonempty n lt) (first_decimal n above lt)
      | inr le ↦ let e : decimal n ≡ 48 ∷ [] = let z : n ≡ 0 = omega arith in rw z (decimal_digit 0 (omega arith)) in rw e refl
    ]

-- what is read as a number is that number's numeral
pub number_found : (most : ℕ) (text : List ℕ) (n : ℕ) → most < 2 ^ 64 → number_at most text ≡ Some n → (n ≤ most) × (text ≡ decimal n)
unfolding number_at
number_found most text n small e =
    let v = digits_value 10 text in
    let g = cond_some (is_numeral text && leb v most) v n e in
    let p = and_parts (is_numeral text) (leb v most) g.0 in
    let plain = numeral_is_plain text p.0 in
    let le : v ≤ most = leb-true v most p.1 in
    rw (← g.1) (le, sym (decimal-digits_value own text plain.digits plain.some plain.zero (omega arith)))

-- and each numeral up to the greatest is read
pub number_again : (most n : ℕ) → n ≤ most → most < 2 ^ 64 → number_at most (decimal n) ≡ Some n
unfolding number_at
number_again most n le small =
    let lt : n < 2 ^ 64 = omega arith in
    rw (digits_value-decimal own n lt, numeral-decimal n lt, le-leb n most le) refl

-- ---- the exits of `read_number`

pub number_at-plain : (most : ℕ) (text : List ℕ) → is_numeral text ≡ false → number_at most text ≡ None
unfolding number_at
number_at-plain most text h = rw h refl

pub number_at-over : (most : ℕ) (text : List ℕ) → most < digits_value 10 text → number_at most text ≡ None
unfolding number_at
number_at-over most text h = let e = and_right (is_numeral text) (leb (digits_value 10 text) most) (lt-leb (digits_value 10 text) most h) in rw e refl

pub number_at-within : (most : ℕ) (text : List ℕ) → is_numeral text ≡ true → digits_value 10 text ≤ most → number_at most text ≡ Some (digits_value 10 text)
unfolding number_at
number_at-within most text h le = let e = and_from (is_numeral text) (leb (digits_value 10 text) most) h (le-leb (digits_value 10 text) most le) in rw e refl

-- a numeral is text
pub numeral_is_text : (text : List ℕ) → is_numeral text ≡ true → IsUtf8 text
numeral_is_text text h = IsUtf8-from_ascii text (IsAscii-from_digits text (own.to text (numeral_is_plain text h).digits))

-- a numeral is taken as text, and parsed as what it is
pub text_refused : {T E : Type 0} (P : T → Type 0) (Q : E → Type 0) (text : List ℕ) (r : Result T E) → is_numeral text ≡ true → MatchResult r P (λ e. ¬ (IsUtf8 text) × Q e) → result_ok r ≡ None → ⊥
text_refused P Q text (Ok s) h is none = absurd cc
text_refused P Q text (Err e) h is none = is.0 (numeral_is_text text h)

pub text_parses : {E F : Type 0} (Q : E → Type 0) (text : List ℕ) (r : Result (Bor (List ℕ)) E) (s : Bor (List ℕ)) (p : Result ℕ F) → MatchResult r (λ s. (s.now ≡ text) × IsUtf8 text) Q
    → result_ok r ≡ Some s → ParsesUnsigned 64 10 s.now p → ParsesUnsigned 64 10 text p
text_parses Q text (Ok t) s p is some parses = subst (λ (ds : List ℕ). ParsesUnsigned 64 10 ds p) (ap (λ (u : Bor (List ℕ)). u.now) (sym (same_Some t s some)) ∙ is.0) parses
text_parses Q text (Err e) s p is some parses = absurd cc

-- what `parse` makes of a numeral
pub parsed : {E : Type 0} (text : List ℕ) (n : ℕ) (r : Result ℕ E) → is_numeral text ≡ true → ParsesUnsigned 64 10 text r → result_ok r ≡ Some n → digits_value 10 text ≡ n
parsed {E} text n (Ok m) h p some = sym (parse_digits own {E = E} 64 text (Ok m) p (numeral_is_plain text h).digits).1 ∙ same_Some m n some
parsed {E} text n (Err e) h p some = absurd cc

pub not_parsed : {E : Type 0} (text : List ℕ) (r : Result ℕ E) → is_numeral text ≡ true → ParsesUnsigned 64 10 text r → result_ok r ≡ None → 2 ^ 64 ≤ digits_value 10 text
not_parsed text (Ok m) h p none = absurd cc
not_parsed text (Err e) h p none =
    let plain = numeral_is_plain text h in
    let q = parse_digits own 64 text (Err e) p plain.digits in
    elim (cases_lt (digits_value 10 text) (2 ^ 64)) [ inl lt ↦ absurd (q (plain.some, lt)) | inr le ↦ le ]

-- What a round names is a key, a tag or a value: for `key_of`, `tag_of` and `items_of`.
use Rattle.std.proofs.Common.{◌≡◌, ◌<◌, ◌^◌, ℕ, Bool, true, false, List, [], ◌∷◌, refl, sym, subst, arith}
use Rattle.std.specs.Prelude.{decimal, nat_le}
use Rattle.std.specs.List.{list_all}
use Rattle.std.proofs.lemmas.Bool.{and_from, and_parts, le-leb, leb-true, or_left, or_right}
use Rattle.std.proofs.lemmas.Fmt.{digits_decimal, length-decimal-le}
use Rattle.stamps.specs.Key.{IsKey}
use Rattle.stamps.specs.Text.{is_between, is_name_byte, is_visible_byte}
use Rattle.stamps.specs.Value.{IsValue}
use Rattle.line_protocol.proofs.Numbers.{own}
use Rattle.load.specs.Rounds.{key_of}

digits_pass : (allowed : ℕ → Bool) → ((byte : ℕ) → is_between 48 57 byte ≡ true → allowed byte ≡ true) → (bytes : List ℕ) → list_all (is_between 48 57) bytes ≡ true → list_all allowed bytes ≡ true
digits_pass allowed f [] h = refl
digits_pass allowed f (byte ∷ bytes) h =
    let p = and_parts (is_between 48 57 byte) (list_all (is_between 48 57) bytes) h in
    and_from (allowed byte) (list_all allowed bytes) (f byte p.0) (digits_pass allowed f bytes p.1)

digit_names : (byte : ℕ) → is_between 48 57 byte ≡ true → is_name_byte byte ≡ true
digit_names byte h = or_left _ _ (or_left _ _ (or_left _ _ (or_left _ _ (or_right (is_between 97 122 byte) (is_between 48 57 byte) h))))

digit_shows : (byte : ℕ) → is_between 48 57 byte ≡ true → is_visible_byte byte ≡ true
digit_shows byte h =
    let p = and_parts (nat_le 48 byte) (nat_le byte 57) h in
    let low = leb-true 48 byte p.0 in
    let high = leb-true byte 57 p.1 in
    and_from (nat_le 33 byte) (nat_le byte 126) (le-leb 33 byte (omega (arith, low))) (le-leb byte 126 (omega (arith, high)))

pub numbers_are_keys : (number : ℕ) → number < 2 ^ 64 → IsKey (key_of number)
numbers_are_keys number small =
    let short = length-decimal-le 20 number (omega arith) (omega (arith, small)) small in record {
      at_least = omega arith;
      at_most = omega (arith, short);
      all_allowed = digits_pass is_name_byte digit_names (decimal number) (digits_decimal own number small);
    }

pub numbers_are_values : (number : ℕ) → number < 2 ^ 64 → IsValue (decimal number)
numbers_are_values number small =
    let short = length-decimal-le 20 number (omega arith) (omega (arith, small)) small in record {
      at_least = omega arith;
      at_most = omega (arith, short);
      all_allowed = digits_pass is_visible_byte digit_shows (decimal number) (digits_decimal own number small);
    }

-- a reader that refuses the key of a number
pub no_key : (bytes : List ℕ) (number : ℕ) → number < 2 ^ 64 → (IsKey bytes → false ≡ true) → bytes ≡ key_of number → ⊥
no_key bytes number small refuses is = let bad : false ≡ true = refuses (subst IsKey (sym is) (numbers_are_keys number small)) in cc

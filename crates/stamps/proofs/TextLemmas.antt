-- The texts of keys, tags and values are ASCII, so that they can be printed.
use Rattle.std.proofs.Common.{◌≡◌, ℕ, ◌<◌, List, arith}
use Rattle.std.specs.Prelude.{Bool, true, nat_le}
use Rattle.std.specs.Str.{IsUtf8}
use Rattle.std.proofs.lemmas.Bool.{and_parts, leb-true}
use Rattle.std.proofs.lemmas.List.Sums.{AllPass-from_list_all}
use Rattle.std.proofs.lemmas.Str.{IsUtf8-from_ascii}
use Rattle.std.proofs.lemmas.Str.Ascii.{IsAscii-from_all}
use Rattle.stamps.specs.Text.{IsText, is_between, is_name_byte, is_visible_byte}

IsUtf8-from_alphabet : (allowed : ℕ → Bool) → ((byte : ℕ) → allowed byte ≡ true → byte < 128)
    → (least most : ℕ) (bytes : List ℕ) → IsText allowed least most bytes → IsUtf8 bytes
IsUtf8-from_alphabet allowed small least most bytes text =
    IsUtf8-from_ascii bytes
    (IsAscii-from_all bytes (λ i d within. small _ (AllPass-from_list_all allowed bytes text.all_allowed i d within)))

between_small : (low high byte : ℕ) → high < 128 → is_between low high byte ≡ true → byte < 128
between_small low high byte small within =
    let at_most = leb-true byte high (and_parts (nat_le low byte) (nat_le byte high) within).1 in omega arith

name_byte_small : (byte : ℕ) → is_name_byte byte ≡ true → byte < 128
name_byte_small byte name = grind (arith, name)

visible_byte_small : (byte : ℕ) → is_visible_byte byte ≡ true → byte < 128
visible_byte_small byte visible = between_small 33 126 byte (omega arith) visible

pub name_is_utf8 : (least most : ℕ) (bytes : List ℕ) → IsText is_name_byte least most bytes → IsUtf8 bytes
name_is_utf8 = IsUtf8-from_alphabet is_name_byte name_byte_small

pub value_is_utf8 : (least most : ℕ) (bytes : List ℕ) → IsText is_visible_byte least most bytes → IsUtf8 bytes
value_is_utf8 = IsUtf8-from_alphabet is_visible_byte visible_byte_small

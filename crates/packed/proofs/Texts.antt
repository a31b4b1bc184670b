-- Texts, numbers and stamps: what their constructors answer, and that what was packed is read again.
use Rattle.std.proofs.Common.{◌≡◌, ℕ, ◌^◌, ◌<◌, Bool, true, false, eqb, ltb, cond, List, [], ◌∷◌, ◌++◌, length, Option, Some, None, refl, ap, ◌∙◌, arith, inl, inr}
use Rattle.std.specs.Int.{w64, to_le_bytes, from_le_bytes}
use Rattle.std.proofs.lemmas.Bool.{ne_eqb, le-leb, le-ltb, lt-ltb, cases_lt}
use Rattle.std.proofs.lemmas.List.{take_at, drop_at, length-append}
use Rattle.std.proofs.lemmas.Nat.{from_le_bytes-to_le_bytes_8}
use Rattle.stamps.specs.Limits.{max_key_len, max_tag_len, max_value_len, max_counter}
use Rattle.stamps.specs.Text.{is_name_byte, is_visible_byte}
use Rattle.stamps.specs.Stamp.{counter_of, client_of, IsStamp}
use Rattle.stamps.specs.Key.{IsKey}
use Rattle.stamps.specs.Tag.{IsTag}
use Rattle.stamps.specs.Value.{IsValue}
use Rattle.packed.specs.Packing.{packed_number, packed_text}
use Rattle.stamps.proofs.MakingLemmas.{text_from-is}
use Rattle.packed.specs.Reading.{◌>>=◌, wide_at, number_at, count_at, text_at, stamp_from, stamp_at, key_at, tag_at, value_at}

-- ---- numbers

wide_parts : (text rest : List ℕ) (n : ℕ) → length text ≡ 8 → from_le_bytes w64 text ≡ n → wide_at (text ++ rest) ≡ Some (n, rest)
wide_parts text rest n len is =
    let long : ltb (length (text ++ rest)) 8 ≡ false = le-ltb _ _ (omega (arith, length-append text rest)) in
    rw (long, take_at text rest 8 len, drop_at text rest 8 len, is) refl

wide_again : (n : ℕ) (rest : List ℕ) → n < 2 ^ 64 → wide_at (to_le_bytes w64 n ++ rest) ≡ Some (n, rest)
wide_again n rest lt = wide_parts (to_le_bytes w64 n) rest n refl (from_le_bytes-to_le_bytes_8 n lt)

small_number : (n : ℕ) (rest : List ℕ) → ltb n 255 ≡ true → number_at (n ∷ rest) ≡ Some (n, rest)
unfolding number_at
small_number n rest small = rw small refl

wide_number : (bytes : List ℕ) → number_at (255 ∷ bytes) ≡ wide_at bytes
unfolding number_at
wide_number bytes = refl

pub number_again : (n : ℕ) (rest : List ℕ) → n < 2 ^ 64 → number_at (packed_number n ++ rest) ≡ Some (n, rest)
number_again n rest lt = go (ltb n 255) refl
  where
    go : (b : Bool) → ltb n 255 ≡ b → number_at (cond b (n ∷ []) (255 ∷ to_le_bytes w64 n) ++ rest) ≡ Some (n, rest)
    go true small = small_number n rest small
    go false large = wide_number (to_le_bytes w64 n ++ rest) ∙ wide_again n rest lt

pub count_again : (n : ℕ) (rest : List ℕ) → n < 2 ^ 32 → count_at (packed_number n ++ rest) ≡ Some (n, rest)
unfolding count_at
count_again n rest lt =
    ap (λ (o : Option (ℕ × List ℕ)). o >>= λ m. cond (ltb 4294967295 m.0) None (Some m)) (number_again n rest (omega (arith, lt)))
    ∙ rw (le-ltb 4294967295 n (omega (arith, lt))) refl

-- ---- stamps

stamp_from-again : (s : ℕ) → IsStamp s → stamp_from s ≡ Some s
stamp_from-again s h =
    elim (cases_lt 0 s) [
      | inl above ↦
          let w = h.whole above in
          let some : eqb s 0 ≡ false = ne_eqb s 0 (λ e. omega (arith, above, e)) in
          rw (some, lt-ltb 0 (counter_of s) w.0, le-leb (counter_of s) max_counter h.small, lt-ltb 0 (client_of s) w.1) refl
      | inr le ↦ let z : s ≡ 0 = omega arith in rw z refl
    ]

pub stamp_again : (s : ℕ) (rest : List ℕ) → IsStamp s → stamp_at (to_le_bytes w64 s ++ rest) ≡ Some (s, rest)
unfolding stamp_at
stamp_again s rest h =
    let small = h.small in
    ap (λ (o : Option (ℕ × List ℕ)). o >>= λ n. stamp_from n.0 >>= λ stamp. Some (stamp, n.1)) (wide_again s rest (omega arith))
    ∙ rw (stamp_from-again s h) refl

-- ---- texts

pub text_again : (text rest : List ℕ) → text_at (packed_text text ++ rest) ≡ Some (text, rest)
unfolding text_at
text_again text rest =
    let long : ltb (length (text ++ rest)) (length text) ≡ false = le-ltb _ _ (omega (arith, length-append text rest)) in
    rw (long, take_at text rest (length text) refl, drop_at text rest (length text) refl) refl

pub key_again : (key rest : List ℕ) → IsKey key → key_at (packed_text key ++ rest) ≡ Some (key, rest)
unfolding key_at
key_again key rest h = rw (text_again key rest, text_from-is is_name_byte 1 max_key_len key h) refl

pub tag_again : (tag rest : List ℕ) → IsTag tag → tag_at (packed_text tag ++ rest) ≡ Some (tag, rest)
unfolding tag_at
tag_again tag rest h = rw (text_again tag rest, text_from-is is_name_byte 0 max_tag_len tag h) refl

pub value_again : (value rest : List ℕ) → IsValue value → value_at (packed_text value ++ rest) ≡ Some (value, rest)
unfolding value_at
value_again value rest h = rw (text_again value rest, text_from-is is_visible_byte 0 max_value_len value h) refl

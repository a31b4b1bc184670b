-- Bytes that are compared eight at a time.
use Rattle.std.proofs.Common.{◌≡◌, ℕ, ◌<◌, List, ◌++◌, length, get_or, take, drop, refl, sym, ap, ◌∙◌, take-append-drop}
use Rattle.std.specs.Prelude.{◌↔◌}
use Rattle.std.specs.Int.{w64, to_le_bytes, from_le_bytes}
use Rattle.std.proofs.lemmas.Nat.{le_bytes_8}

-- eight bytes are reported by their number
pub same_word : (a b : List ℕ) → length a ≡ 8 → length b ≡ 8 → ((i : ℕ) → get_or a i 0 < 256) → ((i : ℕ) → get_or b i 0 < 256)
    → from_le_bytes w64 a ≡ from_le_bytes w64 b → a ≡ b
same_word a b la lb fa fb e =
    sym (le_bytes_8 a (from_le_bytes w64 a) la fa refl) ∙ ap (to_le_bytes w64) e ∙ le_bytes_8 b (from_le_bytes w64 b) lb fb refl

-- where the first eight are the same, the rest decides
pub rest_decides : (one other left right : List ℕ) → (one ≡ other) ↔ (left ≡ right) → take 8 left ≡ take 8 right → (one ≡ other) ↔ (drop 8 left ≡ drop 8 right)
rest_decides one other left right was word = (
  λ same. ap (drop 8) (was.0 same),
  λ rest. was.1 (sym (take-append-drop 8 left) ∙ (λ i. word i ++ rest i) ∙ take-append-drop 8 right),
)

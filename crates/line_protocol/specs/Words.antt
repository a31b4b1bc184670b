-- The parts of a word, and what stands behind them.
use Rattle.std.specs.Prelude.{◌≡◌, ℕ, ◌==◌, Bool, false, List, [], ◌∷◌, Option, Some, None}
use Rattle.stamps.specs.Text.{is_name_byte}
use Rattle.line_protocol.specs.Spelling.{space, hash}

-- the text does not begin with such a byte
abbrev pub BeginsWithout : (ℕ → Bool) → List ℕ → Type 0
BeginsWithout allowed [] = Unit {0}
BeginsWithout allowed (byte ∷ bytes) = allowed byte ≡ false

-- what stands behind a tag does not go on with it
abbrev pub EndsTag : List ℕ → List ℕ → Type 0
EndsTag [] after = BeginsWithout (λ b. b == hash) after
EndsTag (byte ∷ bytes) after = BeginsWithout is_name_byte after

-- what stands behind a word: nothing, or a space and what follows it
abbrev pub word_end : Option (List ℕ) → List ℕ
word_end None = []
word_end (Some rest) = space ∷ rest

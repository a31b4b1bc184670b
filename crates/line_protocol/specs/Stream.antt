-- A byte stream as lines.
use Rattle.std.specs.Prelude.{◌≡◌, ℕ, ◌<◌, ◌≤◌, List, [], ◌∷◌, ◌++◌, length, take, ◌==◌, nat_lt, if◌then◌else◌, false}
use Rattle.std.specs.List.{slice_split, AllByRecursion}
pub use Rattle.stamps.specs.Limits.{line_limit}

-- the byte that ends a line
abbrev pub line_feed : ℕ
line_feed = 10

-- a line as it stands on the stream
abbrev pub terminated : List ℕ → List ℕ
terminated line = line ++ line_feed ∷ []

abbrev pub HasNoLineFeed : List ℕ → Type 0
HasNoLineFeed bytes = AllByRecursion (λ b. (b == line_feed) ≡ false) bytes

-- a line without its LF
pub record IsLine (line : List ℕ) : Type 0 where
  pub one : HasNoLineFeed line
  pub short : length line < line_limit

-- so many bytes without an LF that no line begins with them
pub record IsTooLong (bytes : List ℕ) : Type 0 where
  pub endless : HasNoLineFeed (take line_limit bytes)
  pub long : line_limit ≤ length bytes

-- the parts of a stream between its LFs: an LF stands after each but the last
abbrev pub between_feeds : List ℕ → List (List ℕ)
between_feeds stream = slice_split (λ b. b == line_feed) stream

-- these parts but the last, up to the first that is too long for a line
abbrev pub lines_among : List (List ℕ) → List (List ℕ)
lines_among [] = []
lines_among (rest ∷ []) = []
lines_among (line ∷ part ∷ parts) = if nat_lt (length line) line_limit then line ∷ lines_among (part ∷ parts) else []

-- the lines of a stream, each without its LF
unfoldable pub lines_of : List ℕ → List (List ℕ)
lines_of stream = lines_among (between_feeds stream)

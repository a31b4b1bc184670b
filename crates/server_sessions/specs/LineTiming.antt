-- In which classes the times of lines are counted.
use Rattle.std.specs.Prelude.{ℕ, List, [], ◌∷◌}

-- the longest times of the classes but the last, in nanoseconds: from 50 microseconds to 1 second
abbrev pub edges : List ℕ
edges =
    50000 ∷ 100000 ∷ 250000 ∷ 500000 ∷ 1000000 ∷ 2500000 ∷ 5000000 ∷ 10000000 ∷ 25000000 ∷ 50000000
    ∷ 100000000 ∷ 250000000 ∷ 500000000 ∷ 1000000000 ∷ []

-- the byte that ends a line
abbrev pub line_feed : ℕ
line_feed = 10

-- How the bytes of slots lie in pieces. No public clause cites this module.
use Rattle.std.specs.Prelude.{◌≡◌, ℕ, zero, suc, ◌+◌, ◌*◌, ◌≤◌, List, [], ◌++◌, map, length, get_or, Option, Some, None}
use Rattle.std.specs.List.{range_with_len}

-- the bytes of a piece and those behind it, or none where the piece was never written
abbrev pub joined : Option (List ℕ) → List ℕ → List ℕ
joined None rest = []
joined (Some piece) rest = piece ++ rest

-- the bytes of so many pieces, of which one lies here and each other `cap` places behind the one before it, up to the first that
-- was never written
abbrev pub bytes_from : List (Option (List ℕ)) → ℕ → ℕ → ℕ → List ℕ
bytes_from pieces cap zero here = []
bytes_from pieces cap (suc count) here = joined (get_or pieces here None) (bytes_from pieces cap count (here + cap))

-- the bytes of a slot's 12 pieces
unfoldable pub bytes_of : List (Option (List ℕ)) → ℕ → ℕ → List ℕ
bytes_of pieces cap slot = bytes_from pieces cap 12 slot

abbrev pub slots_of : List (Option (List ℕ)) → ℕ → List (List ℕ)
slots_of pieces cap = map (bytes_of pieces cap) (range_with_len 0 cap)

-- 12 rows of pieces, each with one for each slot
pub record HasStripes (pieces : List (Option (List ℕ))) (cap : ℕ) : Type 0 where
  pub some : 1 ≤ cap
  pub few : cap ≤ 4194304
  pub rows : length pieces ≡ 12 * cap

-- What a contract sees of bytes by slot.
use Rattle.std.specs.Prelude.{ℕ, List, [], slice_index_or}

-- the bytes at a slot
abbrev pub bytes_at : List (List ℕ) → ℕ → List ℕ
bytes_at all slot = slice_index_or all slot []

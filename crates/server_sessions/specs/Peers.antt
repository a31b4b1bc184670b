-- What is read of a peer, and when it is looked whether it is gone.
use Rattle.std.specs.Prelude.{ℕ, ◌==◌, ◌-◌, cond, List, Option, Result}
use Rattle.std.specs.Io.{ReadsAtMost}
use Rattle.std.specs.Io.KnownBytes.{ReadConsumes}

-- a read of a stream that had these bytes left, and then those, came to this: what it took stands in the buffer, in its order and whole
pub record HasRead {E : Type 0} (old new : Option (List ℕ)) (buf : List ℕ) (taken : Result ℕ E) : Type 0 where
  pub bound : ReadsAtMost taken buf
  pub bytes : ReadConsumes old new taken buf

-- how many flushes are left that take no look, behind one at which so many were
abbrev pub flushes_left : ℕ → ℕ
flushes_left left = cond (left == 0) 15 (left - 1)

use Rattle.std.proofs.Common.{ℕ, ◌<◌, ◌≢◌, List}
use Rattle.std.specs.Prelude.{slice_index_or}
use Rattle.stamps.proofs.write_set.are_apart.Given as goal

-- of the keys so far none stands twice
abbrev pub invariant-loop-i : goal.invariant-loop-i
invariant-loop-i l =
    (a b : ℕ) (d : List ℕ) → a < b → b < l.i → slice_index_or l.keys a d ≢ slice_index_or l.keys b d

use Rattle.std.proofs.Common.{◌≡◌, ℕ, ◌<◌, true, eqb, get_or}
use Rattle.line_protocol.proofs.token.split_first.Given as goal

abbrev pub invariant-loop-at : goal.invariant-loop-at
invariant-loop-at l = (k : ℕ) → k < l.at → eqb (get_or l.text k 0) l.byte ≡ true → ⊥

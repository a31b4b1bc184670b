use Rattle.std.proofs.Common.{◌≡◌, length}
use Rattle.std.specs.Prelude.{◌↔◌}
use Rattle.packed.proofs.packed_list.are_bytes.Given as goal

-- what is left decides
abbrev pub invariant-loop-word : goal.invariant-loop-word
invariant-loop-word l = (l.one ≡ l.other) ↔ (l.left ≡ l.right)

abbrev pub decreases-loop-word : goal.decreases-loop-word
decreases-loop-word l = length l.left

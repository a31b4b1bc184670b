use Rattle.std.proofs.Common.{◌≡◌, length}
use Rattle.std.specs.Cmp.Lexicographic.{slice_cmp}
use Rattle.std.specs.Ordering.{nat_cmp}
use Rattle.stamps.proofs.text.cmp_by_words.Given as goal

-- what is left decides
abbrev pub invariant-loop-word : goal.invariant-loop-word
invariant-loop-word g l = slice_cmp nat_cmp l.first l.second ≡ slice_cmp nat_cmp l.left l.right

abbrev pub decreases-loop-word : goal.decreases-loop-word
decreases-loop-word g l = length l.left

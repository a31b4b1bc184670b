use Rattle.std.proofs.Common.{◌≡◌, ◌≤◌, length, take, vec_len, vec_capacity}
use Rattle.prepare_commit.proofs.fill.add_marks.Given as goal

abbrev pub invariant-loop-mark : goal.invariant-loop-mark
invariant-loop-mark l =
    (l.marks.items ≡ take l.mark-index l.added) × (vec_len l.marks ≡ l.mark-index) × (vec_capacity l.initial.marks ≤ vec_capacity l.marks) × (length l.added ≤ vec_capacity l.marks)

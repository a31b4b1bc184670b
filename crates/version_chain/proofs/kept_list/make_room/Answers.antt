use Rattle.std.proofs.Common.{inl, inr, List, length, count_by, ap, arith}
use Rattle.std.proofs.lemmas.Bool.{cases_lt}
use Rattle.version_chain.specs.declared.stamp_list.Kept.{Kept}
use Rattle.version_chain.proofs.TwoLists.{apart_none, not_both}
use Rattle.version_chain.proofs.kept_list.make_room.Goals as goal

pub returns-then-is_full-clause-apart : goal.returns-then-is_full-clause-apart
returns-then-is_full-clause-apart c = apart_none c.take_all.new.self.kept c.take_all.new.other.kept c.take_all.ensures.taken

pub returns-then-is_full-clause-same : goal.returns-then-is_full-clause-same
returns-then-is_full-clause-same c test = omega (arith, c.take_all.ensures.merged test, ap (count_by test) c.take_all.ensures.taken)

pub returns-then-is_full-clause-free : goal.returns-then-is_full-clause-free
returns-then-is_full-clause-free c = omega (arith, ap (λ (ks : List Kept). length ks) c.take_all.ensures.taken, c.take_all.ensures.other_room, c.requires.any)

pub returns-else-is_full-clause-free : goal.returns-else-is_full-clause-free
returns-else-is_full-clause-free c = elim (cases_lt (length c.args.late.now.kept) c.args.late.now.room) [
  | inl free ↦ free
  | inr full ↦ absurd (not_both c.is_full.result (c.is_full.ensures.1 full) c.if-is_full.false)
]

use Rattle.std.proofs.Common.{◌≡◌, ◌+◌, length, vec_len}
use Rattle.std.specs.Vec.Iter.{into_iter_items}
use Rattle.hub.proofs.start.join_all.Given as goal

-- those that have ended, and those that are left
abbrev pub invariant-loop-thread : goal.invariant-loop-thread
invariant-loop-thread g l = l.ended.count + length (into_iter_items l.thread-iterator) ≡ vec_len l.fn.threads

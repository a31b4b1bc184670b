use Rattle.std.proofs.Common.{◌≡◌, ◌+◌, length, vec_len}
use Rattle.server_verdicts.proofs.epochs.checker.join_all.Given as goal

-- those that have ended and those that are left are all
abbrev pub invariant-loop-thread : goal.invariant-loop-thread
invariant-loop-thread g l = l.ended + length l.thread-iterator.rest.items ≡ vec_len l.fn.threads

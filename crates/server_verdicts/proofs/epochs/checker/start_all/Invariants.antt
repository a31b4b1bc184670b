use Rattle.std.proofs.Common.{◌≡◌, ◌≤◌, ◌+◌, vec_len, vec_capacity}
use Rattle.server_verdicts.proofs.epochs.checker.start_all.Given as goal

-- there is room for each partition that is still to start, and each before it has a queue and a thread
abbrev pub invariant-loop-partition : goal.invariant-loop-partition
invariant-loop-partition g l =
    (vec_len l.queues + l.parts ≤ vec_capacity l.queues + l._partition)
    × (vec_len l.threads + l.parts ≤ vec_capacity l.threads + l._partition)
    × (vec_len l.queues ≡ vec_len l.initial.queues + l._partition)
    × (vec_len l.threads ≡ vec_len l.initial.threads + l._partition)

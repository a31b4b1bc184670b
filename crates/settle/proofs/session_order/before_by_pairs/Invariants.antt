use Rattle.std.proofs.Common.{◌≡◌, length}
use Rattle.settle.specs.Sessions.{EachBefore}
use Rattle.settle.proofs.session_order.before_by_pairs.Given as goal

-- the session before each so far
abbrev pub invariant-loop-place : goal.invariant-loop-place
invariant-loop-place l = record {
  sized : length l.before.items ≡ l.place;
  each : EachBefore l.transcripts l.tenant (length l.transcripts) l.before.items;
}

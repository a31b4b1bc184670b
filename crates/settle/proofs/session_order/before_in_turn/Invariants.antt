use Rattle.settle.specs.Sessions.{AreLast, AreBefore}
use Rattle.settle.proofs.session_order.before_in_turn.Given as goal

-- of those so far the last of each client, and the session before each
abbrev pub invariant-loop-place : goal.invariant-loop-place
invariant-loop-place l = record {
  lasts : AreLast l.transcripts l.tenant l.place l.lasts;
  before : AreBefore l.transcripts l.tenant l.place l.before.items;
}

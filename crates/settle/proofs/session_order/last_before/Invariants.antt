use Rattle.closed_store.specs.declared.transcript.Transcript.{Transcript}
use Rattle.settle.specs.Sessions.{IsOfTenant, IsLastBefore}
use Rattle.settle.proofs.session_order.last_before.Given as goal

-- the last of those so far
abbrev pub invariant-loop-other : goal.invariant-loop-other
invariant-loop-other l = (transcript : Transcript) → IsOfTenant l.transcripts l.tenant l.place transcript → IsLastBefore l.transcripts l.tenant l.other l.place transcript l.last

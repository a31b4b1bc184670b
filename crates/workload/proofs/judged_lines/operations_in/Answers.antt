use Rattle.server_verdicts.specs.Begun.{counts_begun}
use Rattle.load.proofs.Counting.{counts_more}
use Rattle.workload.specs.Amounts.{of_all_kinds}
use Rattle.workload.proofs.judged_lines.operations_in.Goals as goal

pub loop-transcript-preserved : goal.loop-transcript-preserved
loop-transcript-preserved c =
    counts_more (counts_begun of_all_kinds c.args.tenant) c.args.transcripts.now c.loop-transcript.transcript-index c.transcript-item.result 0 c.loop-transcript.operations c.with_session-operations.result
    c.loop-transcript-test.true c.transcript-item.is c.loop-transcript.invariant c.with_session-operations.ensures

use Rattle.workload.specs.Amounts.{calls_at}
use Rattle.load.proofs.Counting.{counts_more}
use Rattle.workload.proofs.judged_lines.calls_in.Goals as goal

pub loop-row-preserved : goal.loop-row-preserved
loop-row-preserved c =
    counts_more (calls_at c.args.tenant) c.args.rows.now c.loop-row.row-index c.row-item.result 0 c.loop-row.calls c.with_calls-calls.result c.loop-row-test.true c.row-item.is c.loop-row.invariant c.with_calls-calls.ensures

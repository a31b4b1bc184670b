use Rattle.server_verdicts.specs.Begun.{counts_begun}
use Rattle.load.proofs.Counting.{counts_more}
use Rattle.load.proofs.tally.count_in.Goals as goal

pub loop-transcript-preserved : goal.loop-transcript-preserved
loop-transcript-preserved c =
    let i = c.loop-transcript.transcript-index in
    let within = c.loop-transcript-test.true in
    let is = c.transcript-item.is in
    record {
      puts = counts_more (counts_begun (λ k. k.puts) c.args.tenant) c.args.transcripts.now i c.transcript-item.result 0 c.loop-transcript.begun.puts c.with_session-begun.result.puts within is c.loop-transcript.invariant.puts c.with_session-begun.ensures.puts;
      gets = counts_more (counts_begun (λ k. k.gets) c.args.tenant) c.args.transcripts.now i c.transcript-item.result 0 c.loop-transcript.begun.gets c.with_session-begun.result.gets within is c.loop-transcript.invariant.gets c.with_session-begun.ensures.gets;
      finds = counts_more (counts_begun (λ k. k.finds) c.args.tenant) c.args.transcripts.now i c.transcript-item.result 0 c.loop-transcript.begun.finds c.with_session-begun.result.finds within is c.loop-transcript.invariant.finds c.with_session-begun.ensures.finds;
    }

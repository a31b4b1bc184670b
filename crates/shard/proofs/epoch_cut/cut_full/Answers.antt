use Rattle.shard.proofs.Cuts.{full_cut}
use Rattle.shard.proofs.epoch_cut.cut_full.Goals as goal

-- it is the journal that was seen to be full
pub returns-then-is_full-clause-cut : goal.returns-then-is_full-clause-cut
returns-then-is_full-clause-cut g c =
    full_cut c.args.state.now.book.accounts c.cut_long.new.state.book.accounts c.args.state.now.partition c.args.tenant c.args.epoch c.cut_long.result (c.is_full.ensures.full c.if-is_full.true) c.cut_long.ensures.cut

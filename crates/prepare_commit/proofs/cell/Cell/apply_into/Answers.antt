use Rattle.prepare_commit.proofs.cell.Cell.apply_into.Goals as goal

pub returns-in-Found-clause-serves : goal.returns-in-Found-clause-serves
returns-in-Found-clause-serves c = rw c.in-Found.is (c.found_into.ensures c.args.block.now)

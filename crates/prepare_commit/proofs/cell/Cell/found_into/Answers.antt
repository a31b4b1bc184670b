use Rattle.prepare_commit.proofs.cell.Cell.found_into.Goals as goal

pub returns : goal.returns
returns c block = rw c.put_found.ensures (c.found.ensures block)

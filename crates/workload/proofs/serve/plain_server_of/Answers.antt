use Rattle.workload.proofs.serve.plain_server_of.Goals as goal

pub returns-then-options : goal.returns-then-options
returns-then-options g c = rw c.if-options.true c.staying.ensures

pub returns-else-options : goal.returns-else-options
returns-else-options g c = rw c.if-options.false c.counted.ensures

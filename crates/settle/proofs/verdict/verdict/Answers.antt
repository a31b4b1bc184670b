use Rattle.settle.specs.Input.{input_of}
use Rattle.settle.proofs.Verdicts.{settled}
use Rattle.settle.proofs.verdict.verdict.Goals as goal

pub returns-then-is_whole-clause-found : goal.returns-then-is_whole-clause-found
returns-then-is_whole-clause-found c trace stands none = settled (input_of c.args.closed.now c.args.tenant c.args.progress.replay.limits) trace c.args.progress c.requires.journals stands (c.is_whole.ensures.over trace stands c.if-is_whole.true)

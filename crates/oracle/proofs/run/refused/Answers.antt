use Rattle.oracle.proofs.Evaluating.{refused-BeginsWhole}
use Rattle.oracle.proofs.run.refused.Goals as goal

pub quiet-requires : goal.quiet-requires
quiet-requires c = refused-BeginsWhole c.args.act.now c.args.refusal

use Rattle.command_line.proofs.WordsRead.{fault_on}
use Rattle.command_line.proofs.options.read_sim.Goals as goal

pub returns-in_err-read_store-clause-error : goal.returns-in_err-read_store-clause-error
returns-in_err-read_store-clause-error c =
    fault_on c.from_residual.result c.in_err-read_store.field-0.0 _ _ c.from_residual.ensures.1 c.in_err-read_store.ensures.error (λ none. none)

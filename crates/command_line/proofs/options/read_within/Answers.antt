use Rattle.command_line.proofs.options.read_within.Goals as goal

pub returns-in_err-number-clause-none : goal.returns-in_err-number-clause-none
returns-in_err-number-clause-none c = rw c.from_residual.ensures (λ number given. c.in_err-number.ensures.none number given.of_option)

use Rattle.command_line.proofs.options.read_parts.Goals as goal

pub returns-in_err-parts-clause-none : goal.returns-in_err-parts-clause-none
returns-in_err-parts-clause-none c = rw c.from_residual.ensures (λ parts given. c.in_err-parts.ensures.none parts given.of_parts)

use Rattle.command_line.proofs.options.read_port.Goals as goal

pub returns-in_err-port-clause-none : goal.returns-in_err-port-clause-none
returns-in_err-port-clause-none c = rw c.from_residual.ensures (λ port small of_port. c.in_err-port.ensures.none port of_port)

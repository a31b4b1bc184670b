use Rattle.command_line.proofs.options.read_keep.Goals as goal

pub returns-in_err-keep-clause-none : goal.returns-in_err-keep-clause-none
returns-in_err-keep-clause-none c = rw c.from_residual.ensures (λ keep in_range of_keep. c.in_err-keep.ensures.none keep of_keep)

use Rattle.command_line.proofs.options.read_limits.Goals as goal

pub returns-in_err-slots-clause-none : goal.returns-in_err-slots-clause-none
returns-in_err-slots-clause-none c = rw c.from_residual.ensures (λ limits given. c.in_err-slots.ensures.none limits.slots given.of_slots)

pub returns-in_err-items-clause-none : goal.returns-in_err-items-clause-none
returns-in_err-items-clause-none c = rw c.from_residual-in_err-items.ensures (λ limits given. c.in_err-items.ensures.none limits.items given.of_items)

pub returns-in_err-clients-clause-none : goal.returns-in_err-clients-clause-none
returns-in_err-clients-clause-none c = rw c.from_residual-in_err-clients.ensures (λ limits given. c.in_err-clients.ensures.none limits.clients given.of_clients)

pub returns-in_err-keep-clause-none : goal.returns-in_err-keep-clause-none
returns-in_err-keep-clause-none c = rw c.from_residual-in_err-keep.ensures (λ limits given. c.in_err-keep.ensures.none limits.keep limits.keep_in_range given.of_keep)

use Rattle.std.proofs.Common.{arith}
use Rattle.command_line.proofs.options.read_server.Goals as goal

pub returns-in_err-port-clause-none : goal.returns-in_err-port-clause-none
returns-in_err-port-clause-none c = rw c.from_residual.ensures (λ options given. c.in_err-port.ensures.none options.port options.is_port given.of_port)

pub returns-in_err-sessions-clause-none : goal.returns-in_err-sessions-clause-none
returns-in_err-sessions-clause-none c = rw c.from_residual-in_err-sessions.ensures (λ options given. c.in_err-sessions.ensures.none options.sessions
    (record { from = options.some_sessions; up_to = options.few_sessions; of_option = given.of_sessions }))

pub returns-in_err-stay-clause-none : goal.returns-in_err-stay-clause-none
returns-in_err-stay-clause-none c = rw c.from_residual-in_err-stay.ensures (λ options given. c.in_err-stay.ensures.none options.stay given.of_stay)

pub returns-in_err-strict-clause-none : goal.returns-in_err-strict-clause-none
returns-in_err-strict-clause-none c = rw c.from_residual-in_err-strict.ensures (λ options given. c.in_err-strict.ensures.none options.strict given.of_strict)

pub returns-in_err-newest-clause-none : goal.returns-in_err-newest-clause-none
returns-in_err-newest-clause-none c = rw c.from_residual-in_err-newest.ensures (λ options given. c.in_err-newest.ensures.none options.newest given.of_newest)

pub returns-in_err-unrecorded-clause-none : goal.returns-in_err-unrecorded-clause-none
returns-in_err-unrecorded-clause-none c = rw c.from_residual-in_err-unrecorded.ensures (λ options given. c.in_err-unrecorded.ensures.none options.unrecorded given.of_unrecorded)

pub returns-in_err-counts-clause-none : goal.returns-in_err-counts-clause-none
returns-in_err-counts-clause-none c = rw c.from_residual-in_err-counts.ensures (λ options given. c.in_err-counts.ensures.none options.counts given.of_counts)

pub returns-in_err-queue-clause-none : goal.returns-in_err-queue-clause-none
returns-in_err-queue-clause-none c = rw c.from_residual-in_err-queue.ensures (λ options given. c.in_err-queue.ensures.none options.queue
    (record { from = options.some_room; up_to = options.little_room; of_option = given.of_queue }))

pub returns-in_err-every-clause-none : goal.returns-in_err-every-clause-none
returns-in_err-every-clause-none c = rw c.from_residual-in_err-every.ensures (λ options given. c.in_err-every.ensures.none options.every
    (record { from = options.some_calls; up_to = options.few_calls; of_option = given.of_every }))

pub returns-in_err-epoch-clause-none : goal.returns-in_err-epoch-clause-none
returns-in_err-epoch-clause-none c = rw c.from_residual-in_err-epoch.ensures (λ options given. c.in_err-epoch.ensures.none options.epoch
    (record { from = omega arith; up_to = options.few_events; of_option = given.of_epoch }))

pub returns-in_err-status-clause-none : goal.returns-in_err-status-clause-none
returns-in_err-status-clause-none c = rw c.from_residual-in_err-status.ensures (λ options given. c.in_err-status.ensures.none options.status
    (record { from = omega arith; up_to = options.few_ports; of_option = given.of_status }))

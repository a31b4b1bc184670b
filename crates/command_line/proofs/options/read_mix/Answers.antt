use Rattle.std.proofs.Common.{arith}
use Rattle.command_line.proofs.options.read_mix.Goals as goal

pub returns-in_err-seats-clause-none : goal.returns-in_err-seats-clause-none
returns-in_err-seats-clause-none c = rw c.from_residual.ensures (λ options given. c.in_err-seats.ensures.none options.seats
    (record { from = options.some_seats; up_to = options.few_seats; of_option = given.of_seats }))

pub returns-in_err-rounds-clause-none : goal.returns-in_err-rounds-clause-none
returns-in_err-rounds-clause-none c = rw c.from_residual-in_err-rounds.ensures (λ options given. c.in_err-rounds.ensures.none options.rounds
    (record { from = options.some_rounds; up_to = options.few_rounds; of_option = given.of_rounds }))

pub returns-in_err-seed-clause-none : goal.returns-in_err-seed-clause-none
returns-in_err-seed-clause-none c = rw c.from_residual-in_err-seed.ensures (λ options given. c.in_err-seed.ensures.none options.seed given.of_seed)

pub returns-in_err-keys-clause-none : goal.returns-in_err-keys-clause-none
returns-in_err-keys-clause-none c = rw c.from_residual-in_err-keys.ensures (λ options given. c.in_err-keys.ensures.none options.keys
    (record { from = options.some_keys; up_to = options.few_keys; of_option = given.of_keys }))

pub returns-in_err-queue-clause-none : goal.returns-in_err-queue-clause-none
returns-in_err-queue-clause-none c = rw c.from_residual-in_err-queue.ensures (λ options given. c.in_err-queue.ensures.none options.queue
    (record { from = options.some_room; up_to = options.little_room; of_option = given.of_queue }))

pub returns-in_err-every-clause-none : goal.returns-in_err-every-clause-none
returns-in_err-every-clause-none c = rw c.from_residual-in_err-every.ensures (λ options given. c.in_err-every.ensures.none options.every
    (record { from = options.some_calls; up_to = options.few_calls; of_option = given.of_every }))

pub returns-in_err-epoch-clause-none : goal.returns-in_err-epoch-clause-none
returns-in_err-epoch-clause-none c = rw c.from_residual-in_err-epoch.ensures (λ options given. c.in_err-epoch.ensures.none options.epoch
    (record { from = omega arith; up_to = options.few_events; of_option = given.of_epoch }))

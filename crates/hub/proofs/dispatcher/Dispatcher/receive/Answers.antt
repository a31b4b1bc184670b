use Rattle.std.proofs.Common.{ℕ, Result, sym, subst}
use Rattle.shard.specs.declared.jobs.Fault.{Fault}
use Rattle.shard.specs.Journals.{CameSo}
use Rattle.hub.proofs.dispatcher.Dispatcher.receive.Goals as goal

-- the call brings with it what came of it
pub replied-requires : goal.replied-requires
replied-requires g c =
    let call = c.in-Some.staged.call in
    let P : Result ℕ Fault → Type 0 = λ outcome. CameSo call.front call.mark call.partition call.tenant call.seat call.number call.message.value outcome in
    subst P (sym c.outcome-outcome.ensures) c.in-Some.staged.came

use Rattle.std.proofs.Common.{ap, ◌∙◌, slice_get}
use Rattle.plain_store.specs.History.{message_at}
use Rattle.plain_store.specs.Words.{setup_of}
use Rattle.world.specs.Standing.{history_of}
use Rattle.settle.specs.Replaying.{steps_of}
use Rattle.settle.proofs.Replayed.{history_played}
use Rattle.settle.proofs.replay.Replay.message.Goals as goal

pub returns : goal.returns
returns c input acts history plays =
    c.message.ensures (steps_of plays.taken) input.limits plays.stands (ap (λ ls. slice_get ls 0) plays.limits)
    ∙ (λ i. message_at (history_of (setup_of (plays.parts i) input.limits) 0 (steps_of plays.taken)) c.args.row)
    ∙ ap (λ h. message_at h c.args.row) (history_played input plays.taken plays.own plays.ran)

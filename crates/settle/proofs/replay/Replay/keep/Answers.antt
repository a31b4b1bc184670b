use Rattle.std.proofs.Common.{ap, sym, ◌∙◌, slice_get, Some}
use Rattle.plain_store.specs.History.{keep_in}
use Rattle.plain_store.specs.Words.{setup_of}
use Rattle.world.specs.Standing.{history_of}
use Rattle.settle.specs.Input.{setup_for}
use Rattle.settle.specs.Replaying.{steps_of}
use Rattle.settle.proofs.Words.{some_is}
use Rattle.settle.proofs.Replayed.{history_played}
use Rattle.settle.proofs.replay.Replay.keep.Goals as goal

pub returns-in-Some : goal.returns-in-Some
returns-in-Some c input acts history plays =
    some_is _ _
    (sym c.in-Some.is ∙ c.keep.ensures (steps_of plays.taken) input.limits plays.stands (ap (λ ls. slice_get ls 0) plays.limits)
    ∙ (λ i. Some (keep_in (setup_of (plays.parts i) input.limits) (history_of (setup_of (plays.parts i) input.limits) 0 (steps_of plays.taken))))
    ∙ ap (λ h. Some (keep_in (setup_for input) h)) (history_played input plays.taken plays.own plays.ran)
    ∙ ap Some plays.more.keep)

pub returns-in-None : goal.returns-in-None
returns-in-None c input acts history plays =
    let bad = sym c.in-None.is ∙ c.keep.ensures (steps_of plays.taken) input.limits plays.stands (ap (λ ls. slice_get ls 0) plays.limits) in
    cc

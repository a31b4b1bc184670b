use Rattle.std.proofs.Common.{inl, inr, sym, subst}
use Rattle.settle.specs.Losing.{StillHas}
use Rattle.settle.proofs.replay.Replay.may_have_lost.Goals as goal

pub returns-in-Deliver-clause-has : goal.returns-in-Deliver-clause-has
returns-in-Deliver-clause-has c input acts history plays is =
    let has = c.is_missing.ensures.has input acts history plays is in
    elim c.in-Deliver.is [
      | inl h ↦ subst (StillHas plays.own history) (sym h) has
      | inr h ↦ subst (StillHas plays.own history) (sym h) has
    ]

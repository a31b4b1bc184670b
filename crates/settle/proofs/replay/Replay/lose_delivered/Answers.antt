use Rattle.std.proofs.Common.{◌≡◌, ◌∷◌, [], ◌++◌, sym, ◌∙◌, subst, true, false}
use Rattle.settle.specs.Losing.{is_delivered, IsGone}
use Rattle.settle.proofs.Words.{on_ok_map}
use Rattle.settle.proofs.Losing.{delivered_last}
use Rattle.settle.proofs.replay.Replay.lose_delivered.Goals as goal

pub returns-then-not-self-clause-stands : goal.returns-then-not-self-clause-stands
returns-then-not-self-clause-stands c input acts history plays = record {
  plays = plays;
  gone = λ loses. let bad : true ≡ false = sym loses ∙ c.if-not-self.true in cc;
}

pub returns-in-Deliver-clause-stands : goal.returns-in-Deliver-clause-stands
returns-in-Deliver-clause-stands c =
    on_ok_map c.lose.result
    (λ lost input acts history plays.
    let row = c.in-Deliver.row in
    let new = lost input (acts ++ c.args.act.now ∷ []) history plays (subst (λ a. is_delivered (acts ++ a ∷ []) row ≡ true) (sym c.in-Deliver.is) (delivered_last acts row)) in
    record { plays = new.0; gone = λ loses. subst (IsGone new.0.own) (sym c.in-Deliver.is) new.1 })
    c.lose.ensures.stands

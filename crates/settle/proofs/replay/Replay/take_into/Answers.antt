use Rattle.std.proofs.Common.{◌≡◌, List, ◌∷◌, [], ◌++◌, sym, ◌∙◌, subst}
use Rattle.std.specs.Prelude.{All}
use Rattle.std.proofs.lemmas.List.Elements.{All-push}
use Rattle.plain_store.specs.Words.{IsAct}
use Rattle.plain_store.specs.Tenants.{store_answer}
use Rattle.world.specs.Content.{parts_of, limits_of}
use Rattle.world.specs.Standing.{StandsFor}
use Rattle.settle.specs.Words.{Step}
use Rattle.settle.specs.Input.{setup_for}
use Rattle.settle.specs.Trace.{with_act}
use Rattle.settle.specs.Replaying.{step_of, steps_of}
use Rattle.settle.proofs.Words.{on_ok_map, in_place, on_in_place}
use Rattle.settle.proofs.Losing.{answer_alike, step_alike, lost_alike, undelivered_alike}
use Rattle.settle.proofs.Replayed.{all_last, answer_played, run-more, steps-push}
use Rattle.settle.proofs.replay.Replay.take_into.Goals as goal

pub returns-clause-answer : goal.returns-clause-answer
returns-clause-answer c =
    on_ok_map c.step_into.result
    (λ is input acts history plays has.
    is (steps_of plays.taken) plays.stands
    ∙ (λ i. store_answer (plays.parts i) (plays.limits i) (steps_of plays.taken) (record { tenant = c.requires i; act = c.args.step.now.act }))
    ∙ answer_played input plays.taken plays.own c.args.step.now.act plays.ran
    ∙ answer_alike (setup_for input) plays.own history plays.more c.args.step.now.act has)
    (in_place c.step_into.result c.step_into.new.answer (λ answer. (before : List Step) → StandsFor c.args.self.now.world before → answer ≡ store_answer (parts_of c.args.self.now.world) (limits_of c.args.self.now.world) before c.args.step.now) c.step_into.ensures.answer)

pub returns-clause-stands : goal.returns-clause-stands
returns-clause-stands c =
    on_ok_map c.step_into.result
    (λ more input acts history plays has.
    let act = c.args.step.now.act in
    let stands = more (steps_of plays.taken) plays.stands in
    record {
      limits = c.step_into.ensures.limits ∙ plays.limits;
      own_limits = plays.own_limits;
      parts = c.step_into.ensures.parts ∙ plays.parts;
      taken = plays.taken ++ act ∷ [];
      stands = subst (StandsFor c.step_into.new.self) ((λ i. steps_of plays.taken ++ record { tenant = c.requires i; act = act } ∷ []) ∙ sym (steps-push plays.taken act)) stands;
      own = with_act (setup_for input) act plays.own;
      ran = run-more (setup_for input) plays.taken plays.own act plays.ran;
      more = step_alike (setup_for input) plays.own history plays.more act has;
      all = λ keeps. lost_alike (setup_for input) plays.own history plays.more act has (plays.all keeps);
      undelivered = undelivered_alike (setup_for input) plays.own history plays.more acts act has plays.undelivered;
      valid = subst (All (λ (step : Step). IsAct step.act)) (sym (steps-push acts act))
          (All-push (λ (step : Step). IsAct step.act) (steps_of acts) (step_of 0 act) plays.valid (all_last (steps_of plays.taken) c.args.step.now stands.valid));
    })
    (on_in_place c.step_into.result c.step_into.new.answer _ c.step_into.ensures.stands)

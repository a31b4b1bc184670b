use Rattle.settle.specs.Input.{setup_for}
use Rattle.settle.specs.Trace.{with_act}
use Rattle.settle.proofs.Words.{on_ok_map, on_ok_always}
use Rattle.settle.proofs.replay.Replay.step_into.Goals as goal

pub returns-clause-answer : goal.returns-clause-answer
returns-clause-answer c = on_ok_always c.lose_delivered.result c.in_ok-take_into.ensures.answer

pub returns-clause-stands : goal.returns-clause-stands
returns-clause-stands c =
    on_ok_map c.lose_delivered.result
    (λ lost input acts history plays has. lost input acts (with_act (setup_for input) c.args.step.now.act history) (c.in_ok-take_into.ensures.stands input acts history plays has))
    c.lose_delivered.ensures.stands

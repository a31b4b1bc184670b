use Rattle.std.proofs.Common.{◌∷◌, [], ◌++◌, sym, ◌∙◌, subst, true, false, ◌≡◌}
use Rattle.world.specs.Standing.{StandsFor}
use Rattle.settle.specs.Words.{Lose}
use Rattle.settle.specs.Input.{setup_for}
use Rattle.settle.specs.Trace.{with_act}
use Rattle.settle.specs.Replaying.{steps_of}
use Rattle.settle.proofs.Words.{on_ok_map, on_in_place}
use Rattle.settle.proofs.Losing.{loses_alike, gone_now, undelivered_kept}
use Rattle.settle.proofs.Replayed.{run-more, steps-push}
use Rattle.settle.proofs.replay.Replay.lose.Goals as goal

pub returns-clause-stands : goal.returns-clause-stands
returns-clause-stands c =
    on_ok_map c.step_into.result
    (λ more input acts history plays delivered. (
      record {
        limits = c.step_into.ensures.limits ∙ plays.limits;
        own_limits = plays.own_limits;
        parts = c.step_into.ensures.parts ∙ plays.parts;
        taken = plays.taken ++ Lose c.args.row ∷ [];
        stands = subst (StandsFor c.step_into.new.self) (sym (steps-push plays.taken (Lose c.args.row))) (more (steps_of plays.taken) plays.stands);
        own = with_act (setup_for input) (Lose c.args.row) plays.own;
        ran = run-more (setup_for input) plays.taken plays.own (Lose c.args.row) plays.ran;
        more = loses_alike (setup_for input) plays.own history plays.more c.args.row;
        all = λ keeps. let bad : true ≡ false = sym c.requires ∙ keeps in cc;
        undelivered = undelivered_kept (setup_for input) plays.own history plays.more acts c.args.row delivered plays.undelivered;
        valid = plays.valid;
      },
      gone_now (setup_for input) plays.own history plays.more c.args.row,
    ))
    (on_in_place c.step_into.result c.step_into.new.answer _ c.step_into.ensures.stands)

use Rattle.std.proofs.Common.{◌∷◌, [], refl, sym, ◌∙◌, ap}
use Rattle.settle.specs.Input.{setup_for}
use Rattle.settle.proofs.Losing.{lost_no_more}
use Rattle.settle.proofs.replay.Replay.open.Goals as goal

pub returns-clause-stands : goal.returns-clause-stands
returns-clause-stands c input limits parts = record {
  limits = c.in_ok-open.ensures.limits ∙ ap (λ l. l ∷ []) (sym limits);
  own_limits = sym limits;
  parts = c.in_ok-open.ensures.parts ∙ sym parts;
  taken = [];
  stands = c.in_ok-open.ensures.stands;
  own = [];
  ran = refl;
  more = lost_no_more (setup_for input) [];
  all = λ keeps. refl;
  undelivered = λ row none. refl;
  valid = c.in_ok-open.ensures.stands.valid;
}

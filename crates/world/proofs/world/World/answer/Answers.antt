use Rattle.std.proofs.Common.{[], ◌∷◌, ◌++◌, subst}
use Rattle.plain_store.specs.Tenants.{store_answer}
use Rattle.world.specs.Content.{parts_of, limits_of}
use Rattle.world.specs.Standing.{StandsFor}
use Rattle.world.proofs.Results.{added, on_ok_both}
use Rattle.world.specs.Promises.{IsPromisedAfter}
use Rattle.world.proofs.world.World.answer.Goals as goal

pub returns-clause-ok : goal.returns-clause-ok
returns-clause-ok c =
    added c.step.result c.push_ok.result c.args.answers.now.items c.reserve_one.new.list.items c.push_ok.new.list.items (StandsFor c.args.self.now) (λ before. store_answer (parts_of c.args.self.now) (limits_of c.args.self.now) before c.args.step.now)
    (λ before. StandsFor c.step.new.self (before ++ c.args.step.now ∷ [])) c.push_ok.ensures.same c.push_ok.ensures.ok c.reserve_one.ensures.items c.step.ensures.answer c.step.ensures.stands

pub returns-clause-promised : goal.returns-clause-promised
returns-clause-promised c =
    on_ok_both c.step.result c.push_ok.result _ _ _ c.push_ok.ensures.same
    (λ answer is keeps before stands. subst (IsPromisedAfter (parts_of c.args.self.now) (limits_of c.args.self.now) before c.args.step.now) (is before stands) (keeps before stands))
    c.step.ensures.answer c.step.ensures.promised

use Rattle.std.proofs.Common.{refl, sym, subst}
use Rattle.prepare_commit.specs.Bases.{Frozen}
use Rattle.partition.specs.Journals.{IsEnd}
use Rattle.settle.proofs.epoch_check.check_epoch.Goals as goal

pub returns-clause-exact : goal.returns-clause-exact
returns-clause-exact c = (λ _. c.in_ok-play_epoch.ensures.exact.0 c.if-not-branch.false, λ _. refl)

pub returns-clause-end : goal.returns-clause-end
returns-clause-end c =
    let played = c.in_ok-play_epoch.ensures.end c.if-not-branch.false in
    subst (λ (b : Frozen). IsEnd c.args.epoch.now.base c.args.epoch.now.events.items b) (sym c.in_ok-base.ensures) played

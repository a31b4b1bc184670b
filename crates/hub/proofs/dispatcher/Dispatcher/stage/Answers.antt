use Rattle.std.proofs.Common.{refl}
use Rattle.hub.proofs.Behind.{staged-as}
use Rattle.hub.proofs.dispatcher.Dispatcher.stage.Goals as goal

pub returns-clause-staged : goal.returns-clause-staged
returns-clause-staged g c =
    let its = c.called-call.ensures in
    staged-as _ _ _ c.args.message _ _ _ c.push_back_reserved.ensures.items its.owner.0 its.owner.1 its.owner.2 its.owner.3 its.message its.place refl

use Rattle.std.proofs.Common.{ap, arith}
use Rattle.hub.specs.Taken.{replies_in}
use Rattle.hub.proofs.Operations.{entered-began, recorded-begun, recorded-extends, recorded-few}
use Rattle.hub.proofs.seat.Seat.abandon.Goals as goal

pub returns-clause-began : goal.returns-clause-began
returns-clause-began g c =
    rw (c.end.ensures.entries, c.run.ensures.later.name) (recorded-begun _ _ _ _ (entered-began _ _ c.run.new.self c.run.new.answer c.run.ensures.entered))

pub returns-clause-few : goal.returns-clause-few
returns-clause-few g c =
    let few = recorded-few c.run.new.self.name.is_recorded c.run.new.self.entries in
    omega (arith, c.run.ensures.few, ap replies_in c.end.ensures.entries, few)

pub returns-clause-entries : goal.returns-clause-entries
returns-clause-entries g c = rw (c.end.ensures.entries, c.run.ensures.later.name) (recorded-extends _ _ _ c.run.ensures.later.kept)

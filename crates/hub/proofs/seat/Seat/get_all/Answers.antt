use Rattle.hub.proofs.seat.Seat.get_all.Goals as goal

pub returns : goal.returns
returns g c =
    let its = c.get_all_into.ensures in
    record { operated = its.operated; read = its.read; atomic = its.atomic; fresh = its.fresh }

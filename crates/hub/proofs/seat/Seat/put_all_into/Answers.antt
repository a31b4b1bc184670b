use Rattle.hub.proofs.Done.{puts_ran}
use Rattle.hub.proofs.seat.Seat.put_all_into.Goals as goal

pub returns : goal.returns
returns g c =
    let ran = c.run.ensures in
    puts_ran c.args.items.now c.args.self.now c.run.new.self c.run.new.answer ran.entered ran.stopped ran.past ran.later ran.told.0 ran.told.1 ran.moved ran.legal ran.of_store

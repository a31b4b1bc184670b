use Rattle.std.proofs.Common.{arith}
use Rattle.std.proofs.lemmas.Grind.{common_steps}
use Rattle.load.proofs.Picked.{finds, gets, puts}
use Rattle.load.proofs.seats.run_round.Goals as goal

pub returns-in-Put-clause-operated : goal.returns-in-Put-clause-operated
returns-in-Put-clause-operated g c =
    puts c.args.keys c.args.nth c.args.round.now _ c.args.seat.now c.put_all.new.self c.put_all.result c.in-Put.is (grind (arith, common_steps))
    c.put_all.ensures.operated

pub returns-in-Get-clause-operated : goal.returns-in-Get-clause-operated
returns-in-Get-clause-operated g c =
    gets c.args.keys c.args.nth c.args.round.now _ c.args.seat.now c.get_all.new.self c.get_all.result c.in-Get.is (grind (arith, common_steps))
    c.get_all.ensures.operated

pub returns-in-Find-clause-operated : goal.returns-in-Find-clause-operated
returns-in-Find-clause-operated g c =
    finds c.args.keys c.args.nth c.args.round.now c.tag_of.result c.args.seat.now c.find.new.self c.find.result c.in-Find.is c.tag_of.ensures
    c.find.ensures.operated

use Rattle.hub.specs.Registered.{known_of}
use Rattle.hub.proofs.Leaving.{set_free}
use Rattle.hub.proofs.clients.Clients.leave.Goals as goal

-- its row, if it is that of this turn, is closed now
pub returns-clause-free : goal.returns-clause-free
returns-clause-free g c =
    let name = c.args.name.now in
    set_free name.turn c.args.counter c.args.ticket (known_of c.args.self.now.register name.tenant name.client) (known_of c.leave.new.self name.tenant name.client)
    c.leave.ensures.known.known

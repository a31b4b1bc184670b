use Rattle.world.proofs.Results.{on_ok}
use Rattle.world.proofs.sending.send_reserved.Goals as goal

pub returns-clause-stands : goal.returns-clause-stands
returns-clause-stands c messages lost stands = on_ok c.send.result _ (c.send.ensures.succeeds c.requires.room) (c.send.ensures.stands messages lost stands)

use Rattle.packed.proofs.BodyParts.{first_here}
use Rattle.packed.proofs.bodies.stored_keys.Goals as goal

pub stored_key-first-requires : goal.stored_key-first-requires
stored_key-first-requires c = first_here c.args.count c.args.bytes.now c.requires.some c.requires.there

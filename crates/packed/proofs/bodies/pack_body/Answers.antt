use Rattle.std.proofs.Common.{take, refl}
use Rattle.packed.proofs.BodyParts.{record_is}
use Rattle.packed.proofs.bodies.pack_body.Goals as goal

pub returns-clause-read : goal.returns-clause-read
returns-clause-read c =
    record_is c.args.version.now.stamp (take c.lay_body.result c.lay_body.new.bytes) (c.args.version.now, c.lay_body.ensures.stored, refl, c.lay_body.ensures.laid)

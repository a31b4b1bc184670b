use Rattle.std.proofs.Common.{ap, ◌∙◌}
use Rattle.packed.proofs.BodyParts.{found}
use Rattle.packed.proofs.KeysIn.{set_in}
use Rattle.packed.proofs.bodies.unpack_keys.Goals as goal

pub set_from-requires-clause-set : goal.set_from-requires-clause-set
set_from-requires-clause-set c = (set_in c.args.count c.args.bytes.now c.requires.some c.requires.there).1

pub set_from-requires-clause-count : goal.set_from-requires-clause-count
set_from-requires-clause-count c = (set_in c.args.count c.args.bytes.now c.requires.some c.requires.there).0

pub returns : goal.returns
returns c =
    let set = set_in c.args.count c.args.bytes.now c.requires.some c.requires.there in
    (set.2.0, ap (λ keys. found keys set.2.0) c.set_from.ensures ∙ set.2.1)

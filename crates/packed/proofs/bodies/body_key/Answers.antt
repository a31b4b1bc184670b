use Rattle.std.proofs.Common.{[], sym, ap, ◌∙◌}
use Rattle.packed.proofs.BodyParts.{is_there, alone, key_is, after_key, record_is}
use Rattle.packed.proofs.bodies.body_key.Goals as goal

pub stored_key-key-requires : goal.stored_key-key-requires
stored_key-key-requires c = let body = c.requires.1 in is_there (key_is body.0 [] body.1 c.args.bytes.now (alone body.0 c.args.bytes.now body.3))

pub returns : goal.returns
returns c = λ stamp body.
    (after_key body.0 [] body.1 c.args.bytes.now c.stored_key-key.result.0 c.stored_key-key.result.1.now (alone body.0 c.args.bytes.now body.3) c.stored_key-key.ensures).0
    ∙ ap (λ r. r.key) (sym (record_is stamp c.args.bytes.now body))

use Rattle.std.proofs.Common.{sym, ap, ◌∙◌, ◌++◌}
use Rattle.packed.specs.Packing.{packed_text}
use Rattle.packed.proofs.BodyParts.{is_there, front_parts, front_key_is, pair_parts, record_is}
use Rattle.packed.proofs.bodies.front_key.Goals as goal

pub stored_key-key-requires : goal.stored_key-key-requires
stored_key-key-requires c =
    let body = c.requires.2 in
    let parts = front_parts body.0 body.1 c.args.front.now c.requires.1 body.3 c.requires.3 in
    is_there (front_key_is body.0 body.1 c.args.front.now parts.0 parts.1)

pub returns : goal.returns
returns c = λ stamp bytes body front.
    let parts = front_parts body.0 body.1 c.args.front.now bytes body.3 front in
    (pair_parts c.stored_key-key.result.0 body.0.key c.stored_key-key.result.1.now (packed_text body.0.tag ++ parts.0)
    (c.stored_key-key.ensures ∙ front_key_is body.0 body.1 c.args.front.now parts.0 parts.1)).0
    ∙ ap (λ r. r.key) (sym (record_is stamp bytes body))

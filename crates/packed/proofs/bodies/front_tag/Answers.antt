use Rattle.std.proofs.Common.{sym, ap, ◌∙◌}
use Rattle.packed.proofs.BodyParts.{is_there, front_parts, front_text_is, front_tag_is, pair_parts, record_is}
use Rattle.packed.proofs.bodies.front_tag.Goals as goal

pub stored_text-requires : goal.stored_text-requires
stored_text-requires c =
    let body = c.requires.2 in
    let parts = front_parts body.0 body.1 c.args.front.now c.requires.1 body.3 c.requires.3 in
    is_there (front_text_is body.0 body.1 c.args.front.now parts.0 parts.1)

pub stored_tag-tag-requires : goal.stored_tag-tag-requires
stored_tag-tag-requires c =
    let body = c.requires.2 in
    let parts = front_parts body.0 body.1 c.args.front.now c.requires.1 body.3 c.requires.3 in
    is_there (front_tag_is body.0 body.1 c.args.front.now parts.0 parts.1 c.stored_text.result.1.now c.stored_text.result.0.now c.stored_text.ensures)

pub returns : goal.returns
returns c = λ stamp bytes body front.
    let parts = front_parts body.0 body.1 c.args.front.now bytes body.3 front in
    (pair_parts c.stored_tag-tag.result.0 body.0.tag c.stored_tag-tag.result.1.now parts.0
    (c.stored_tag-tag.ensures ∙ front_tag_is body.0 body.1 c.args.front.now parts.0 parts.1 c.stored_text.result.1.now c.stored_text.result.0.now c.stored_text.ensures)).0
    ∙ ap (λ r. r.tag) (sym (record_is stamp bytes body))

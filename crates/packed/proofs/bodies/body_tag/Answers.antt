use Rattle.std.proofs.Common.{[], sym, ap, ◌∙◌}
use Rattle.packed.proofs.BodyParts.{is_there, alone, first_text, after_first, after_tag, tag_there, record_is}
use Rattle.packed.proofs.bodies.body_tag.Goals as goal

pub stored_text-requires : goal.stored_text-requires
stored_text-requires c = let body = c.requires.1 in is_there (first_text body.0 [] body.1 c.args.bytes.now (alone body.0 c.args.bytes.now body.3))

pub stored_tag-tag-requires : goal.stored_tag-tag-requires
stored_tag-tag-requires c =
    let body = c.requires.1 in
    tag_there body.0 [] body.1 c.stored_text.result.1.now
    (after_first body.0 [] body.1 c.args.bytes.now c.stored_text.result.0.now c.stored_text.result.1.now (alone body.0 c.args.bytes.now body.3) c.stored_text.ensures)

pub returns : goal.returns
returns c = λ stamp body.
    (after_tag body.0 [] body.1 c.stored_text.result.1.now c.stored_tag-tag.result.0 c.stored_tag-tag.result.1.now
    (after_first body.0 [] body.1 c.args.bytes.now c.stored_text.result.0.now c.stored_text.result.1.now (alone body.0 c.args.bytes.now body.3) c.stored_text.ensures)
    c.stored_tag-tag.ensures).0
    ∙ ap (λ r. r.tag) (sym (record_is stamp c.args.bytes.now body))

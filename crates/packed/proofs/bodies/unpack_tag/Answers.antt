use Rattle.std.proofs.Common.{Some, sym, ap, subst, arith, ◌∙◌}
use Rattle.stamps.specs.Tag.{IsTag}
use Rattle.stamps.specs.Limits.{max_tag_len}
use Rattle.packed.proofs.BodyParts.{text_of_tag, tag_here, text_found, front_text}
use Rattle.packed.proofs.bodies.unpack_tag.Goals as goal

pub stored_text-requires : goal.stored_text-requires
stored_text-requires c = text_of_tag c.args.bytes.now c.requires

pub wide_text-requires : goal.wide_text-requires
wide_text-requires c =
    (omega arith, (text_found c.args.bytes.now c.stored_text.result.0.now c.stored_text.result.1.now c.stored_text.ensures).0)

pub of_front-requires-clause-valid : goal.of_front-requires-clause-valid
of_front-requires-clause-valid c =
    let here = tag_here c.args.bytes.now c.stored_text.result.0.now c.stored_text.result.1.now c.stored_text.ensures c.requires in
    let same = front_text c.args.bytes.now c.stored_text.result.0.now c.stored_text.result.1.now c.in-Some.front.now max_tag_len c.stored_text.ensures c.in-Some.ensures here.0.at_most in
    subst IsTag (sym same) here.0

pub of_front-requires-clause-fits : goal.of_front-requires-clause-fits
of_front-requires-clause-fits c = (tag_here c.args.bytes.now c.stored_text.result.0.now c.stored_text.result.1.now c.stored_text.ensures c.requires).0.at_most

pub unpack_short_tag-requires : goal.unpack_short_tag-requires
unpack_short_tag-requires c = (tag_here c.args.bytes.now c.stored_text.result.0.now c.stored_text.result.1.now c.stored_text.ensures c.requires).0

pub returns-in-Some : goal.returns-in-Some
returns-in-Some c =
    let here = tag_here c.args.bytes.now c.stored_text.result.0.now c.stored_text.result.1.now c.stored_text.ensures c.requires in
    let same = front_text c.args.bytes.now c.stored_text.result.0.now c.stored_text.result.1.now c.in-Some.front.now max_tag_len c.stored_text.ensures c.in-Some.ensures here.0.at_most in
    ap (λ one. Some (one, c.stored_text.result.1.now)) (c.of_front.ensures ∙ same) ∙ here.1

pub returns-in-None : goal.returns-in-None
returns-in-None c =
    ap (λ one. Some (one, c.stored_text.result.1.now)) c.unpack_short_tag.ensures
    ∙ (tag_here c.args.bytes.now c.stored_text.result.0.now c.stored_text.result.1.now c.stored_text.ensures c.requires).1

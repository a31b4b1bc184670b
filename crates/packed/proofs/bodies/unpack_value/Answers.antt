use Rattle.std.proofs.Common.{Some, sym, ap, subst, arith, ◌∙◌}
use Rattle.stamps.specs.Value.{IsValue, short_value_len}
use Rattle.packed.proofs.BodyParts.{text_of_value, value_here, text_found, front_text}
use Rattle.packed.proofs.bodies.unpack_value.Goals as goal

pub stored_text-requires : goal.stored_text-requires
stored_text-requires c = text_of_value c.args.bytes.now c.requires

pub wide_text-requires : goal.wide_text-requires
wide_text-requires c =
    (omega arith, (text_found c.args.bytes.now c.stored_text.result.0.now c.stored_text.result.1.now c.stored_text.ensures).0)

pub set_short-requires-clause-valid : goal.set_short-requires-clause-valid
set_short-requires-clause-valid c =
    let here = value_here c.args.bytes.now c.stored_text.result.0.now c.stored_text.result.1.now c.stored_text.ensures c.requires in
    let same = front_text c.args.bytes.now c.stored_text.result.0.now c.stored_text.result.1.now c.in-Some.front.now short_value_len c.stored_text.ensures c.in-Some.ensures c.if-text-le-SHORT_LEN.true in
    subst IsValue (sym same) here.0

pub returns : goal.returns
returns c =
    let here = value_here c.args.bytes.now c.stored_text.result.0.now c.stored_text.result.1.now c.stored_text.ensures c.requires in
    let same = front_text c.args.bytes.now c.stored_text.result.0.now c.stored_text.result.1.now c.in-Some.front.now short_value_len c.stored_text.ensures c.in-Some.ensures c.if-text-le-SHORT_LEN.true in
    ap (λ one. Some (one, c.stored_text.result.1.now)) (c.set_short.ensures ∙ same) ∙ here.1

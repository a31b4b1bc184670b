use Rattle.std.proofs.Common.{◌≡◌, ℕ, drop, take, sym, subst, ◌∙◌}
use Rattle.stamps.specs.Record.{Record, IsRecord}
use Rattle.packed.specs.Bodies.{IsPackedBody}
use Rattle.packed.proofs.BodyParts.{is_there, body_first, key_is, after_key, after_tag, after_value, after_writes, tag_there, value_there, writes_there, record_is}
use Rattle.packed.proofs.bodies.unpack_body.Goals as goal
use Rattle.packed.proofs.bodies.unpack_body.Goals.{After-unpack_writes}

pub unpack_key-rest-requires : goal.unpack_key-rest-requires
unpack_key-rest-requires c =
    let len = c.requires.0 in
    let body = c.requires.1 in
    let more = drop len c.args.bytes.now in
    is_there (key_is body.0 more body.1 c.args.bytes.now (body_first body.0 c.args.bytes.now len body.3))

pub unpack_tag-rest-requires : goal.unpack_tag-rest-requires
unpack_tag-rest-requires c =
    let len = c.requires.0 in
    let body = c.requires.1 in
    let more = drop len c.args.bytes.now in
    let key = after_key body.0 more body.1 c.args.bytes.now c.unpack_key-rest.new.place c.unpack_key-rest.result.now (body_first body.0 c.args.bytes.now len body.3) c.unpack_key-rest.ensures in
    tag_there body.0 more body.1 c.unpack_key-rest.result.now key.1

pub unpack_value-rest-requires : goal.unpack_value-rest-requires
unpack_value-rest-requires c =
    let len = c.requires.0 in
    let body = c.requires.1 in
    let more = drop len c.args.bytes.now in
    let key = after_key body.0 more body.1 c.args.bytes.now c.unpack_key-rest.new.place c.unpack_key-rest.result.now (body_first body.0 c.args.bytes.now len body.3) c.unpack_key-rest.ensures in
    let tag = after_tag body.0 more body.1 c.unpack_key-rest.result.now c.unpack_tag-rest.new.place c.unpack_tag-rest.result.now key.1 c.unpack_tag-rest.ensures in
    value_there body.0 more body.1 c.unpack_tag-rest.result.now tag.1

pub unpack_writes-requires : goal.unpack_writes-requires
unpack_writes-requires c =
    let len = c.requires.0 in
    let body = c.requires.1 in
    let more = drop len c.args.bytes.now in
    let key = after_key body.0 more body.1 c.args.bytes.now c.unpack_key-rest.new.place c.unpack_key-rest.result.now (body_first body.0 c.args.bytes.now len body.3) c.unpack_key-rest.ensures in
    let tag = after_tag body.0 more body.1 c.unpack_key-rest.result.now c.unpack_tag-rest.new.place c.unpack_tag-rest.result.now key.1 c.unpack_tag-rest.ensures in
    let value = after_value body.0 more body.1 c.unpack_tag-rest.result.now c.unpack_value-rest.new.place c.unpack_value-rest.result.now tag.1 c.unpack_value-rest.ensures in
    writes_there body.0 more body.1 c.unpack_value-rest.result.now value.1

-- the parts that were read are those of the record
parts : (c : After-unpack_writes) (len : ℕ) (body : IsPackedBody c.args.stamp (take len c.args.bytes.now)) → ◌≡◌ {A = Record} (record {
  key = c.unpack_key-rest.new.place;
  tag = c.unpack_tag-rest.new.place;
  value = c.unpack_value-rest.new.place;
  stamp = c.args.stamp;
  writes = c.unpack_writes.new.place;
}) body.0
parts c len body =
    let more = drop len c.args.bytes.now in
    let key = after_key body.0 more body.1 c.args.bytes.now c.unpack_key-rest.new.place c.unpack_key-rest.result.now (body_first body.0 c.args.bytes.now len body.3) c.unpack_key-rest.ensures in
    let tag = after_tag body.0 more body.1 c.unpack_key-rest.result.now c.unpack_tag-rest.new.place c.unpack_tag-rest.result.now key.1 c.unpack_tag-rest.ensures in
    let value = after_value body.0 more body.1 c.unpack_tag-rest.result.now c.unpack_value-rest.new.place c.unpack_value-rest.result.now tag.1 c.unpack_value-rest.ensures in
    let writes = after_writes body.0 more body.1 c.unpack_value-rest.result.now c.unpack_writes.new.place c.unpack_writes.ensures.0 value.1 c.unpack_writes.ensures.1 in
    λ i. record {
      key = key.0 i;
      tag = tag.0 i;
      value = value.0 i;
      stamp = sym body.2 i;
      writes = writes i;
    }

pub invariant_of-place : goal.invariant_of-place
invariant_of-place c = subst IsRecord (sym (parts c c.requires.0 c.requires.1)) c.requires.1.1.whole

pub returns : goal.returns
returns c = λ len body. parts c len body ∙ sym (record_is c.args.stamp (take len c.args.bytes.now) body)

use Rattle.std.proofs.Common.{refl, ap, ◌∙◌}
use Rattle.stamps.specs.Record.{Record}
use Rattle.packed.specs.Bodies.{packed_body}
use Rattle.packed.proofs.BodyParts.{record_is}
use Rattle.version_chain.proofs.stored.StoredNode.key_and_tag.Goals as goal

pub front_key-requires : goal.front_key-requires
front_key-requires c =
    let r = c.args.self.now.version.prepared in
    (r.stamp, packed_body r, (r, c.read_front-len.ensures.stored, refl, refl), c.read_front-len.ensures.front)

pub front_tag-requires : goal.front_tag-requires
front_tag-requires c =
    let r = c.args.self.now.version.prepared in
    (r.stamp, packed_body r, (r, c.read_front-len.ensures.stored, refl, refl), c.read_front-len.ensures.front)

pub returns : goal.returns
returns c =
    let r = c.args.self.now.version.prepared in
    let is = record_is r.stamp (packed_body r) (r, c.read_front-len.ensures.stored, refl, refl) in (
      c.front_key.ensures r.stamp (packed_body r) (r, c.read_front-len.ensures.stored, refl, refl) c.read_front-len.ensures.front
          ∙ ap (λ (r : Record). r.key) is,
      c.front_tag.ensures r.stamp (packed_body r) (r, c.read_front-len.ensures.stored, refl, refl) c.read_front-len.ensures.front
          ∙ ap (λ (r : Record). r.tag) is,
    )

use Rattle.std.proofs.Common.{◌≡◌, sym, ap, subst, ◌∙◌}
use Rattle.std.specs.Prelude.{IsSome}
use Rattle.std.specs.Option.{option_map}
use Rattle.packed.specs.Reading.{byte_at}
use Rattle.packed.proofs.BodyParts.{some_before, byte_of_writes, keys_here, found}
use Rattle.packed.proofs.bodies.unpack_writes.Goals as goal
use Rattle.packed.proofs.bodies.unpack_writes.Goals.{After-from}

pub unwrap-count-requires : goal.unwrap-count-requires
unwrap-count-requires c = some_before _ _ _ c.read_byte.ensures (byte_of_writes c.args.bytes.now c.requires)

-- the count, and what stands behind it
counted : (c : After-from) → found c.from.result c.unwrap-count.result.1.now ≡ byte_at c.args.bytes.now
counted c =
    ap (λ n. found n c.unwrap-count.result.1.now) c.from.ensures ∙ ap (option_map (λ p. (p.0, p.1.now))) (sym c.unwrap-count.ensures) ∙ c.read_byte.ensures

pub unpack_keys-requires-clause-some : goal.unpack_keys-requires-clause-some
unpack_keys-requires-clause-some c =
    let at = (goal.at.unpack_keys-requires-clause-some c).After-from in
    (keys_here c.args.bytes.now c.from.result c.unwrap-count.result.1.now (counted at) c.requires).0

pub unpack_keys-requires-clause-few : goal.unpack_keys-requires-clause-few
unpack_keys-requires-clause-few c =
    let at = (goal.at.unpack_keys-requires-clause-few c).After-from in
    (keys_here c.args.bytes.now c.from.result c.unwrap-count.result.1.now (counted at) c.requires).1

pub unpack_keys-requires-clause-there : goal.unpack_keys-requires-clause-there
unpack_keys-requires-clause-there c =
    let at = (goal.at.unpack_keys-requires-clause-there c).After-from in
    subst IsSome (keys_here c.args.bytes.now c.from.result c.unwrap-count.result.1.now (counted at) c.requires).2 c.requires

pub returns : goal.returns
returns c =
    let at = (goal.at.returns c).After-from in
    (c.unpack_keys.ensures.0, c.unpack_keys.ensures.1 ∙ sym (keys_here c.args.bytes.now c.from.result c.unwrap-count.result.1.now (counted at) c.requires).2)

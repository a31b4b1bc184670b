use Rattle.std.proofs.Common.{◌≡◌, List, length, take, drop, sym, ap, ◌∙◌, arith}
use Rattle.version_chain.specs.declared.version.Version.{Version}
use Rattle.version_chain.specs.PackedVersions.{versions_in}
use Rattle.version_chain.proofs.Unpacking.{as_many, part_packed, part_is, same_pieces}
use Rattle.version_chain.proofs.version_list.VersionList.has_part.Goals as goal

pub has_part-requires-clause-own : goal.has_part-requires-clause-own
has_part-requires-clause-own c =
    let pieces = c.self.inside.list.items in
    let many : length c.args.self.now ≡ length pieces = ap (λ (vs : List Version). length vs) (sym c.self.view_is) ∙ as_many pieces in
    omega (arith, many, c.requires.own)

pub has_part-requires-clause-others : goal.has_part-requires-clause-others
has_part-requires-clause-others c =
    let pieces = c.other.inside.list.items in
    let many : length c.args.other.now ≡ length pieces = ap (λ (vs : List Version). length vs) (sym c.other.view_is) ∙ as_many pieces in
    omega (arith, many, c.requires.others)

pub returns : goal.returns
returns c =
    let one = c.self.inside.list.items in
    let two = c.other.inside.list.items in
    let own : versions_in (take c.args.count (drop c.args.at one)) ≡ take c.args.count (drop c.args.at c.args.self.now) =
    part_is c.args.at c.args.count one ∙ ap (λ (vs : List Version). take c.args.count (drop c.args.at vs)) c.self.view_is in
    let others : versions_in (take c.args.count (drop c.args.from two)) ≡ take c.args.count (drop c.args.from c.args.other.now) =
    part_is c.args.from c.args.count two ∙ ap (λ (vs : List Version). take c.args.count (drop c.args.from vs)) c.other.view_is in (
      λ yes. sym own ∙ ap versions_in (c.has_part.ensures.0 yes) ∙ others,
      λ same. c.has_part.ensures.1 (same_pieces _ _ (part_packed c.args.at c.args.count one c.self.invariant) (part_packed c.args.from c.args.count two c.other.invariant) (own ∙ same ∙ sym others)),
    )

use Rattle.std.proofs.Common.{◌≡◌, ◌++◌, List, length, take, drop, sym, ap, subst, ◌∙◌, arith}
use Rattle.std.proofs.lemmas.List.{map-append}
use Rattle.version_chain.specs.declared.version.Version.{Version}
use Rattle.version_chain.specs.PackedVersions.{version_in, ArePackedVersions, versions_in}
use Rattle.version_chain.proofs.Unpacking.{as_many, part_packed, part_is, both_packed}
use Rattle.version_chain.proofs.PackedChains.{on_ok}
use Rattle.version_chain.proofs.version_list.VersionList.push_part.Goals as goal

pub push_part-requires : goal.push_part-requires
push_part-requires c =
    let pieces = c.other.inside.list.items in
    let many : length c.args.other.now ≡ length pieces = ap (λ (vs : List Version). length vs) (sym c.other.view_is) ∙ as_many pieces in
    omega (arith, many, c.requires)

pub invariant_of-self : goal.invariant_of-self
invariant_of-self c =
    let pieces = c.other.inside.list.items in
    let some = c.push_part.ensures.some in
    subst ArePackedVersions (sym some.1) (both_packed c.self.inside.list.items (take some.0 (drop c.args.from pieces)) c.self.invariant (part_packed c.args.from some.0 pieces c.other.invariant))

pub returns : goal.returns
returns c =
    let own = c.self.inside.list.items in
    let pieces = c.other.inside.list.items in
    let is : versions_in (take c.args.count (drop c.args.from pieces)) ≡ take c.args.count (drop c.args.from c.args.other.now) =
    part_is c.args.from c.args.count pieces ∙ ap (λ (vs : List Version). take c.args.count (drop c.args.from vs)) c.other.view_is in
    on_ok
    (λ put.
    ap versions_in put ∙ map-append version_in own (take c.args.count (drop c.args.from pieces))
    ∙ (λ i. c.self.view_is i ++ is i)) c.push_part.result c.push_part.ensures.ok

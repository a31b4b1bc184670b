use Rattle.std.proofs.Common.{◌≡◌, List, length, sym, ap, ◌∙◌, arith}
use Rattle.version_chain.specs.declared.version.Version.{Version}
use Rattle.version_chain.proofs.Unpacking.{as_many}
use Rattle.version_chain.proofs.version_list.VersionList.len.Goals as goal

pub returns-clause-count : goal.returns-clause-count
returns-clause-count c =
    let pieces = c.self.inside.list.items in
    c.len.ensures.count ∙ sym (as_many pieces) ∙ ap (λ (vs : List Version). length vs) c.self.view_is

pub returns-clause-few : goal.returns-clause-few
returns-clause-few c =
    let pieces = c.self.inside.list.items in
    let many : length c.args.self.now ≡ length pieces = ap (λ (vs : List Version). length vs) (sym c.self.view_is) ∙ as_many pieces in
    let few = c.len.ensures.few in
    omega (arith, many, few)

use Rattle.std.proofs.Common.{◌≡◌, ◌<◌, ℕ, List, length, Some, sym, ap, subst, ◌∙◌}
use Rattle.std.specs.Prelude.{slice_get}
use Rattle.std.specs.Option.{option_map}
use Rattle.version_chain.specs.declared.version.Version.{Version}
use Rattle.version_chain.specs.PackedVersions.{version_in}
use Rattle.version_chain.proofs.Unpacking.{as_many, packed_there, version_there}
use Rattle.version_chain.proofs.version_list.VersionList.version.Goals as goal

pub get-requires : goal.get-requires
get-requires c =
    let pieces = c.self.inside.list.items in
    let many : length c.args.self.now ≡ length pieces = ap (λ (vs : List Version). length vs) (sym c.self.view_is) ∙ as_many pieces in
    subst (λ (n : ℕ). c.args.at < n) many c.requires

pub unpacked-requires : goal.unpacked-requires
unpacked-requires c = packed_there c.self.inside.list.items c.args.at c.get.result.now c.self.invariant c.get.ensures

pub returns : goal.returns
returns c =
    ap Some c.unpacked.ensures ∙ ap (option_map version_in) c.get.ensures ∙ sym (version_there c.self.inside.list.items c.args.at) ∙ ap (λ (vs : List Version). slice_get vs c.args.at) c.self.view_is

use Rattle.std.proofs.Common.{sym, ap, ◌∙◌}
use Rattle.version_chain.specs.PackedVersions.{versions_in}
use Rattle.version_chain.proofs.Unpacking.{same_pieces}
use Rattle.version_chain.proofs.version_list.VersionList.is.Goals as goal

pub returns : goal.returns
returns c = (
  λ yes. sym c.self.view_is ∙ ap versions_in (c.is.ensures.0 yes) ∙ c.other.view_is,
  λ same. c.is.ensures.1 (same_pieces c.self.inside.list.items c.other.inside.list.items c.self.invariant c.other.invariant (c.self.view_is ∙ same ∙ sym c.other.view_is)),
)

use Rattle.std.proofs.Common.{◌≡◌, List, ℕ, [], ◌∷◌, ◌++◌, take, sym, ap, subst, ◌∙◌}
use Rattle.std.specs.Int.{w64, to_le_bytes}
use Rattle.version_chain.specs.declared.version.Version.{Version}
use Rattle.version_chain.specs.PackedVersions.{mark_of, packed_version, ArePackedVersions, versions_in}
use Rattle.version_chain.proofs.Unpacking.{one_more, versions_once_more}
use Rattle.version_chain.proofs.version_list.VersionList.push_by.Goals as goal
use Rattle.version_chain.proofs.version_list.VersionList.push_by.Goals.{After-push_stamped}

abbrev bytes : (c : After-push_stamped) → List ℕ
bytes c = c.mark_of-mark.result ∷ to_le_bytes w64 c.stamp.result ++ take c.read-len.result c.read-len.new.body

-- the bytes that were put are those of the version
packed : (c : After-push_stamped) → bytes c ≡ packed_version c.args.node.now.version
packed c =
    let mark = c.mark_of-mark.ensures ∙ ap mark_of c.is_committed.ensures in
    λ i. mark i ∷ to_le_bytes w64 (c.stamp.ensures.value i) ++ c.read-len.ensures.packed i

pub invariant_of-self-2 : goal.invariant_of-self-2
invariant_of-self-2 c =
    let at = (goal.at.invariant_of-self-2 c).After-push_stamped in
    subst ArePackedVersions (sym c.in_ok-push_stamped.ensures.ok) (one_more c.self.inside.list.items c.args.node.now.version (bytes at) c.self.invariant c.read-len.ensures.stored (packed at))

pub returns-clause-ok : goal.returns-clause-ok
returns-clause-ok c =
    let at = (goal.at.returns-clause-ok c).After-push_stamped in
    let v = c.args.node.now.version in
    ap versions_in c.in_ok-push_stamped.ensures.ok ∙ versions_once_more c.self.inside.list.items v (bytes at) c.read-len.ensures.stored (packed at)
    ∙ ap (λ (vs : List Version). vs ++ v ∷ []) c.self.view_is

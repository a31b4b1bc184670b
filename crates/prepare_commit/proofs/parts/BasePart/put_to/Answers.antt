use Rattle.std.proofs.Common.{◌++◌, List, length, ap, ◌∙◌, arith}
use Rattle.std.specs.Prelude.{slice_get}
use Rattle.version_chain.specs.declared.version.Version.{Version}
use Rattle.prepare_commit.specs.Begun.{Holding}
use Rattle.prepare_commit.proofs.Places.{beside_long, beside_versions, on_ok}
use Rattle.prepare_commit.proofs.parts.BasePart.put_to.Goals as goal

pub put_to-requires : goal.put_to-requires
put_to-requires c =
    let p = c.self.inside in
    let long = beside_long p.entries p.chains c.self.invariant in
    let seen = ap (λ (hs : List Holding). length hs) c.self.view_is in
    omega (arith, c.requires, c.self.invariant, long, seen)

pub returns : goal.returns
returns c =
    let p = c.self.inside in
    on_ok
    (λ put h is. put ∙ ap (λ (vs : List Version). c.args.list.now ++ vs) (beside_versions p.entries p.chains c.args.at h (ap (λ (hs : List Holding). slice_get hs c.args.at) c.self.view_is ∙ is)))
    c.put_to.result c.put_to.ensures

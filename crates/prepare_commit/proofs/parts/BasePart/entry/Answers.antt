use Rattle.std.proofs.Common.{List, length, ap, ◌∙◌, arith}
use Rattle.std.specs.Prelude.{slice_get}
use Rattle.prepare_commit.specs.Begun.{Holding}
use Rattle.prepare_commit.proofs.Places.{beside_long, beside_entry}
use Rattle.prepare_commit.proofs.parts.BasePart.entry.Goals as goal

pub get-requires : goal.get-requires
get-requires c =
    let p = c.self.inside in
    let long = beside_long p.entries p.chains c.self.invariant in
    let seen = ap (λ (hs : List Holding). length hs) c.self.view_is in
    omega (arith, c.requires, long, seen)

pub returns : goal.returns
returns c h is =
    let p = c.self.inside in
    c.get.ensures h.entry ∙ beside_entry p.entries p.chains c.args.at h h.entry (ap (λ (hs : List Holding). slice_get hs c.args.at) c.self.view_is ∙ is)

use Rattle.std.proofs.Common.{List, length, sym, ap, ◌∙◌, arith}
use Rattle.std.specs.Prelude.{slice_get}
use Rattle.prepare_commit.specs.Begun.{Holding}
use Rattle.prepare_commit.proofs.Places.{beside_long, beside_versions}
use Rattle.prepare_commit.proofs.parts.BasePart.is_list.Goals as goal

pub is_list-requires : goal.is_list-requires
is_list-requires c =
    let p = c.self.inside in
    let long = beside_long p.entries p.chains c.self.invariant in
    let seen = ap (λ (hs : List Holding). length hs) c.self.view_is in
    omega (arith, c.requires, c.self.invariant, long, seen)

pub returns : goal.returns
returns c h is =
    let p = c.self.inside in
    let there = beside_versions p.entries p.chains c.args.at h (ap (λ (hs : List Holding). slice_get hs c.args.at) c.self.view_is ∙ is) in
    (λ yes. sym there ∙ c.is_list.ensures.0 yes, λ same. c.is_list.ensures.1 (there ∙ same))

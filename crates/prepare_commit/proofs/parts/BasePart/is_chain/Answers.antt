use Rattle.std.proofs.Common.{List, length, sym, ap, ◌∙◌, arith}
use Rattle.std.specs.Prelude.{slice_get}
use Rattle.prepare_commit.specs.Begun.{Holding}
use Rattle.prepare_commit.proofs.Places.{beside_long, beside_versions}
use Rattle.prepare_commit.proofs.parts.BasePart.is_chain.Goals as goal

pub is_chain-requires-clause-own : goal.is_chain-requires-clause-own
is_chain-requires-clause-own c =
    let p = c.self.inside in
    let long = beside_long p.entries p.chains c.self.invariant in
    let seen = ap (λ (hs : List Holding). length hs) c.self.view_is in
    omega (arith, c.requires.own, c.self.invariant, long, seen)

pub is_chain-requires-clause-others : goal.is_chain-requires-clause-others
is_chain-requires-clause-others c =
    let p = c.other.inside in
    let long = beside_long p.entries p.chains c.other.invariant in
    let seen = ap (λ (hs : List Holding). length hs) c.other.view_is in
    omega (arith, c.requires.others, c.other.invariant, long, seen)

pub returns : goal.returns
returns c h k is at =
    let p = c.self.inside in
    let q = c.other.inside in
    let there = beside_versions p.entries p.chains c.args.at h (ap (λ (hs : List Holding). slice_get hs c.args.at) c.self.view_is ∙ is) in
    let theirs = beside_versions q.entries q.chains c.args.place k (ap (λ (hs : List Holding). slice_get hs c.args.place) c.other.view_is ∙ at) in
    (λ yes. sym there ∙ c.is_chain.ensures.0 yes ∙ theirs, λ same. c.is_chain.ensures.1 (there ∙ same ∙ sym theirs))

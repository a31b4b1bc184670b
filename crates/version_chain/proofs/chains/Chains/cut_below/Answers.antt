use Rattle.std.proofs.Common.{Some, subst, ap, arith}
use Rattle.version_chain.specs.Heads.{Heads}
use Rattle.version_chain.specs.Place.{IsPlace}
use Rattle.version_chain.proofs.Cutting.{cut_begun, cut_step, cut_done}
use Rattle.version_chain.proofs.chains.Chains.cut_below.Goals as goal

pub loop-here-init : goal.loop-here-init
loop-here-init c = cut_begun _ _ _ _ _ _ c.requires.stands c.seek.ensures

pub returns-clause-kept : goal.returns-clause-kept
returns-clause-kept c = cut_done _ _ _ _ _ _ _ _ c.loop-here.invariant c.in_default.is

pub returns-clause-listed : goal.returns-clause-listed
returns-clause-listed c lists = c.loop-here.invariant.listed lists

pub returns-clause-given_up : goal.returns-clause-given_up
returns-clause-given_up c =
    let given_up = c.loop-here.invariant.given_up in
    let before = ap (λ (h : Heads). h.used) c.self.view_is in
    let after = ap (λ (h : Heads). h.used) c.self-2.view_is in
    record { used = omega (arith, given_up.used, before, after); none = λ e. given_up.none (omega (arith, given_up.used, e, before, after)) }

pub loop-here-preserved : goal.loop-here-preserved
loop-here-preserved c =
    let cut = c.loop-here.invariant in
    let left = c.unlink.ensures in
    let place : IsPlace c.loop-here.block c.loop-here.self c.args.chain c.args.floor c.seek.result.0 (Some c.in-Some.slot) = subst (λ here. IsPlace c.loop-here.block c.loop-here.self c.args.chain c.args.floor c.seek.result.0 here) c.in-Some.is cut.place in
    cut_step _ _ _ _ _ _ _ _ _ _ _ c.in-Some.slot cut c.in-Some.is left.changed left.removed left.freed left.listed (rw c.next-here.ensures (left.place c.args.floor place))

use Rattle.std.proofs.Common.{ap, sym, is_some, ◌∙◌}
use Rattle.std.proofs.lemmas.Bool.{ltb-false}
use Rattle.version_chain.specs.Place.{least_of}
use Rattle.version_chain.proofs.Seeking.{reached_from, reached_next, near_live}
use Rattle.version_chain.proofs.Walks.{on_cell, read_cell, step-shorter}
use Rattle.version_chain.proofs.chains.Chains.seek_from.Goals as goal

pub after-here-requires-clause-live : goal.after-here-requires-clause-live
after-here-requires-clause-live c = near_live c.args.block.now c.args.self.now c.args.chain (least_of c.args.bound.now) c.args.near c.requires.near

pub loop-here-init : goal.loop-here-init
loop-here-init c = reached_from _ _ _ _ _ _ c.requires.chain.stands c.requires.chain.known c.requires.near c.after-here.ensures

pub get-requires : goal.get-requires
get-requires c = ap is_some (on_cell _ _ _ _ _ _ c.loop-here.invariant.at.chained c.in-Some.is).found

pub loop-here-smaller : goal.loop-here-smaller
loop-here-smaller c =
    let read = read_cell _ _ _ _ _ _ (on_cell _ _ _ _ _ _ c.loop-here.invariant.at.chained c.in-Some.is) c.get.ensures in
    rw c.next-here.ensures (step-shorter _ _ _ _ _ _ c.loop-here.invariant.at read)

pub loop-here-preserved : goal.loop-here-preserved
loop-here-preserved c =
    let read = read_cell _ _ _ _ _ _ (on_cell _ _ _ _ _ _ c.loop-here.invariant.at.chained c.in-Some.is) c.get.ensures in
    rw c.next-here.ensures (reached_next _ _ _ _ _ _ _ _ c.loop-here.invariant c.in-Some.is read (ltb-false _ _ (sym c.is_below.ensures ∙ c.if-is_below.false)))

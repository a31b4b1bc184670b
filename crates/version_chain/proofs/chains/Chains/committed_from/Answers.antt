use Rattle.std.proofs.Common.{Some, ap, sym, is_some, ◌∙◌}
use Rattle.version_arena.specs.Arena.{next_beside}
use Rattle.version_chain.proofs.Latest.{first_committed, first_here, first_unmarked}
use Rattle.version_chain.proofs.Walks.{at_end, follow-chain, on_cell, read_cell, step, step-shorter}
use Rattle.version_chain.proofs.chains.Chains.committed_from.Goals as goal

pub loop-here-init : goal.loop-here-init
loop-here-init c =
    let path = c.requires in
    (record { rest = path.0; chained = path.1; short = path.2 }, ap first_committed (sym (follow-chain _ _ _ _ path.0 _ path.1 path.2)))

pub get-requires : goal.get-requires
get-requires c = ap is_some (on_cell _ _ _ _ _ _ c.loop-here.invariant.0.chained c.in-Some.is).found

pub returns-then-is_committed : goal.returns-then-is_committed
returns-then-is_committed c =
    let read = read_cell _ _ _ _ _ _ (on_cell _ _ _ _ _ _ c.loop-here.invariant.0.chained c.in-Some.is) c.get.ensures in (
      c.get.result.version,
      next_beside c.args.block.now c.in-Some.slot,
      read.found ∙ ap (λ n. Some (n, next_beside c.args.block.now c.in-Some.slot)) read.node_is,
      sym c.loop-here.invariant.1 ∙ ap first_committed read.is ∙ first_here c.get.result.version read.later (sym c.is_committed.ensures ∙ c.if-is_committed.true),
    )

pub loop-here-smaller : goal.loop-here-smaller
loop-here-smaller c =
    let read = read_cell _ _ _ _ _ _ (on_cell _ _ _ _ _ _ c.loop-here.invariant.0.chained c.in-Some.is) c.get.ensures in
    rw c.next-here.ensures (step-shorter _ _ _ _ _ _ c.loop-here.invariant.0 read)

pub loop-here-preserved : goal.loop-here-preserved
loop-here-preserved c =
    let read = read_cell _ _ _ _ _ _ (on_cell _ _ _ _ _ _ c.loop-here.invariant.0.chained c.in-Some.is) c.get.ensures in
    rw c.next-here.ensures (
      step _ _ _ _ _ _ c.loop-here.invariant.0 read,
      sym (ap first_committed read.is ∙ first_unmarked c.get.result.version read.later (sym c.is_committed.ensures ∙ c.if-is_committed.false)) ∙ c.loop-here.invariant.1,
    )

pub returns : goal.returns
returns c = sym c.loop-here.invariant.1 ∙ ap first_committed (at_end _ _ _ _ _ c.loop-here.invariant.0.chained c.in_default.is)

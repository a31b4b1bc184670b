use Rattle.std.proofs.Common.{◌≡◌, refl, ap, sym, is_some, slice_get, ◌∙◌}
use Rattle.version_chain.specs.Chain.{committed_records}
use Rattle.version_chain.specs.Heads.{head}
use Rattle.version_chain.proofs.Committed.{nth_skip, nth_next, nth_here}
use Rattle.version_chain.proofs.Walks.{at_head, at_end, on_cell, read_cell, step, step-shorter}
use Rattle.version_chain.proofs.chains.Chains.nth_committed.Goals as goal

pub loop-here-init : goal.loop-here-init
loop-here-init c =
    let first : c.head-here.result ≡ head c.args.self.now c.args.chain = rw (← c.self.view_is) c.head-here.ensures in
    rw first (at_head _ _ c.args.chain c.requires.stands c.requires.known, refl)

pub get-node-requires : goal.get-node-requires
get-node-requires c = ap is_some (on_cell _ _ _ _ _ _ c.loop-here.invariant.0.chained c.in-Some.is).found

pub loop-here-smaller-then-not-is_committed : goal.loop-here-smaller-then-not-is_committed
loop-here-smaller-then-not-is_committed c =
    let read = read_cell _ _ _ _ _ _ (on_cell _ _ _ _ _ _ c.loop-here.invariant.0.chained c.in-Some.is) c.get-node.ensures in
    rw c.next-here.ensures (step-shorter _ _ _ _ _ _ c.loop-here.invariant.0 read)

pub loop-here-preserved-then-not-is_committed : goal.loop-here-preserved-then-not-is_committed
loop-here-preserved-then-not-is_committed c =
    let read = read_cell _ _ _ _ _ _ (on_cell _ _ _ _ _ _ c.loop-here.invariant.0.chained c.in-Some.is) c.get-node.ensures in
    rw c.next-here.ensures (step _ _ _ _ _ _ c.loop-here.invariant.0 read, nth_skip _ _ _ _ _ read.is (sym c.is_committed.ensures ∙ c.if-not-is_committed.true) c.loop-here.invariant.1)

pub returns-then-left-eq0 : goal.returns-then-left-eq0
returns-then-left-eq0 c =
    let read = read_cell _ _ _ _ _ _ (on_cell _ _ _ _ _ _ c.loop-here.invariant.0.chained c.in-Some.is) c.get-node.ensures in
    rw c.into_record.ensures (sym (nth_here _ _ _ _ read.is (sym c.is_committed.ensures ∙ c.if-not-is_committed.false) c.if-left-eq0.true) ∙ c.loop-here.invariant.1)

pub loop-here-smaller : goal.loop-here-smaller
loop-here-smaller c =
    let read = read_cell _ _ _ _ _ _ (on_cell _ _ _ _ _ _ c.loop-here.invariant.0.chained c.in-Some.is) c.get-node.ensures in
    rw c.next-here.ensures (step-shorter _ _ _ _ _ _ c.loop-here.invariant.0 read)

pub loop-here-preserved : goal.loop-here-preserved
loop-here-preserved c =
    let read = read_cell _ _ _ _ _ _ (on_cell _ _ _ _ _ _ c.loop-here.invariant.0.chained c.in-Some.is) c.get-node.ensures in
    rw c.next-here.ensures (step _ _ _ _ _ _ c.loop-here.invariant.0 read, nth_next _ _ _ _ _ read.is (sym c.is_committed.ensures ∙ c.if-not-is_committed.false) c.if-left-eq0.false c.loop-here.invariant.1)

pub returns : goal.returns
returns c = sym (ap (λ rest. slice_get (committed_records rest) c.loop-here.left) (at_end _ _ _ _ _ c.loop-here.invariant.0.chained c.in_default.is)) ∙ c.loop-here.invariant.1

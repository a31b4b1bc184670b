use Rattle.std.proofs.Common.{◌-◌, take, refl, sym, ap, ◌∙◌, arith}
use Rattle.std.proofs.lemmas.List.{length-take-le}
use Rattle.version_chain.specs.declared.stamp_list.Kept.{Kept}
use Rattle.version_chain.proofs.Merging.{nothing_placed, kept_at, front_placed, run_placed, all_ascends, all_counted}
use Rattle.version_chain.proofs.stamp_list.merge_back.Goals as goal

pub loop-unplaced-init : goal.loop-unplaced-init
loop-unplaced-init c =
    nothing_placed (take c.args.front c.args.list.now) c.args.run.now c.args.list.now c.args.front (sym (length-take-le c.args.front c.args.list.now (omega (arith, c.requires.long)))) refl c.requires.long

pub loop-unplaced-preserved-then-ends_above : goal.loop-unplaced-preserved-then-ends_above
loop-unplaced-preserved-then-ends_above c =
    let l = c.loop-unplaced in
    let x = c.index-list-left.result in
    let above = c.ends_above.ensures.above c.if-ends_above.true in
    front_placed (take c.args.front c.args.list.now) c.args.run.now l.list l.left l.unplaced l.invariant c.requires.front c.requires.run (l.left - 1) x c.index-run-unplaced.result
    (omega (arith, above.0))
    c.loop-unplaced-test.true
    (c.index-list-left.is ∙ kept_at (take c.args.front c.args.list.now) c.args.run.now l.list l.left l.unplaced l.invariant (l.left - 1) x (omega (arith, above.0)))
    c.index-run-unplaced.is
    (omega (arith, above.1 x, ap (λ (k : Kept). k.stamp) c.index-list-left.is))

pub loop-unplaced-preserved : goal.loop-unplaced-preserved
loop-unplaced-preserved c =
    let l = c.loop-unplaced in
    let front = take c.args.front c.args.list.now in
    run_placed front c.args.run.now l.list l.left l.unplaced l.invariant c.requires.front c.requires.run (l.unplaced - 1) c.index-run-unplaced.result
    (omega (arith, c.loop-unplaced-test.true))
    c.index-run-unplaced.is
    (λ some d. omega (arith, c.ends_above.ensures.not_above c.if-ends_above.false some d, ap (λ (k : Kept). k.stamp) (kept_at front c.args.run.now l.list l.left l.unplaced l.invariant (l.left - 1) d (omega (arith, some)))))

pub returns-clause-ascends : goal.returns-clause-ascends
returns-clause-ascends c =
    let l = c.loop-unplaced in
    all_ascends (take c.args.front c.args.list.now) c.args.run.now l.list l.left l.unplaced l.invariant c.requires.front c.requires.run (omega (arith, c.loop-unplaced-test.false))

pub returns-clause-merged : goal.returns-clause-merged
returns-clause-merged c =
    let l = c.loop-unplaced in
    all_counted (take c.args.front c.args.list.now) c.args.run.now l.list l.left l.unplaced l.invariant c.requires.front c.requires.run (omega (arith, c.loop-unplaced-test.false))

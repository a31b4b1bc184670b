use Rattle.std.proofs.Common.{◌≤◌, ℕ, length, ap, arith}
use Rattle.std.proofs.lemmas.List.{length-replicate}
use Rattle.std.specs.Prelude.{Option, None}
use Rattle.version_chain.specs.Chain.{Cells}
use Rattle.version_chain.specs.Node.{Node}
use Rattle.prepare_commit.proofs.Chaining.{none_live, none_of}
use Rattle.prepare_commit.proofs.lone_cell.LoneCell.open.Goals as goal

pub invariant_of-result : goal.invariant_of-result
invariant_of-result c =
    let made = c.in_ok-open-2.ensures in
    let block = c.in_ok-open.field-0 in
    let long = ap (λ (b : Cells). length b) c.in_ok-open.ensures in
    let enough : c.args.slots ≤ c.max.result = omega (arith, c.max.ensures) in (
      made.lies block (none_of block c.max.result c.in_ok-open.ensures 0),
      omega (arith, none_live block c.max.result c.in_ok-open.ensures, made.chains.1, made.chains.2, enough, long, length-replicate {A = Option (Node × Option ℕ)} c.max.result None),
    )

pub returns-clause-empty : goal.returns-clause-empty
returns-clause-empty c = c.in_ok-open-2.ensures.empty c.in_ok-open.field-0

use Rattle.std.proofs.Common.{◌≤◌, ℕ, length, ap, arith}
use Rattle.std.proofs.lemmas.List.{length-replicate}
use Rattle.std.specs.Prelude.{Option, None}
use Rattle.version_chain.specs.Chain.{Cells}
use Rattle.version_chain.specs.Node.{Node}
use Rattle.prepare_commit.proofs.Chaining.{none_live, none_of}
use Rattle.tests_surface.proofs.of_prepare_commit.serves.Goals as goal

pub prepare-prepared-requires : goal.prepare-prepared-requires
prepare-prepared-requires c =
    let made = c.in_ok-cell.ensures in
    let block = c.in_ok-block.block in
    let long = ap (λ (b : Cells). length b) c.in_ok-block.ensures in record {
      lies = made.lies block (none_of block 2 c.in_ok-block.ensures 0);
      share = omega (arith, none_live block 2 c.in_ok-block.ensures, made.chains.1, made.chains.2, long, length-replicate {A = Option (Node × Option ℕ)} 2 None);
    }

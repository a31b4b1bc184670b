use Rattle.std.proofs.Common.{◌≤◌, ℕ, [], length, ap, ◌∙◌, arith}
use Rattle.std.proofs.lemmas.List.{length-replicate}
use Rattle.std.specs.Prelude.{Option, None}
use Rattle.plain_store.specs.Words.{Room}
use Rattle.version_chain.specs.Chain.{Cells}
use Rattle.version_chain.specs.Node.{Node}
use Rattle.prepare_commit.specs.Bases.{Frozen}
use Rattle.prepare_commit.proofs.Chaining.{none_live, none_of}
use Rattle.tests_surface.proofs.of_prepare_commit.is_opened_at_a_base.Goals as goal

pub base-requires : goal.base-requires
base-requires c =
    let made = c.in_ok-cell.ensures in
    let block = c.in_ok-block.block in record {
      lies = made.lies block (none_of block 2 c.in_ok-block.ensures 0);
      log = ([], tt, made.empty block);
    }

pub at-requires : goal.at-requires
at-requires c =
    let other = c.in_ok-other.other in
    let long = ap (λ (b : Cells). length b) c.in_ok-other.ensures in
    let slots = ap (λ (b : Frozen). b.room.slots) c.in_ok-base.ensures ∙ ap (λ (r : Room). r.slots) c.in_ok-cell.ensures.room in record {
      none = none_of other 2 c.in_ok-other.ensures 0;
      share = omega (arith, none_live other 2 c.in_ok-other.ensures, slots, long, length-replicate {A = Option (Node × Option ℕ)} 2 None);
    }

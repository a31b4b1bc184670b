use Rattle.std.proofs.Common.{ap, ◌∙◌}
use Rattle.version_chain.specs.Stored.{HeadCells, stored_cells}
use Rattle.version_chain.proofs.StoredNodes.{stored_none}
use Rattle.version_chain.proofs.shared_block.Block.open.Goals as goal

pub returns : goal.returns
returns c = ap (λ (h : HeadCells). stored_cells h c.in_ok-with_slots.field-0) c.in_ok-with_cells.ensures ∙ stored_none c.args.cells c.in_ok-with_slots.field-0

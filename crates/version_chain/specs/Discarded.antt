-- The cells and the list of the kept versions while those of a stamp are dropped. No public clause cites this module.
use Rattle.std.specs.Prelude.{◌≡◌, ◌≢◌, ℕ, false, None}
use Rattle.version_chain.specs.Heads.{Heads}
use Rattle.version_chain.specs.Chain.{Cells}
use Rattle.version_chain.specs.Listed.{node_in, is_open_node, NodesStay}

-- the version left the cell of this slot, and each other cell holds what it held
pub record FreesOnly (old new : Cells) (slot : ℕ) : Type 0 where
  pub free : node_in new slot ≡ None
  pub rest : (place : ℕ) → place ≢ slot → node_in new place ≡ node_in old place

-- at most versions of this stamp that are not committed left their cells, each other cell holds what it held, and the
-- list names what it named
pub record DropsOpen (stamp : ℕ) (old_cells : Cells) (old : Heads) (new_cells : Cells) (new : Heads) : Type 0 where
  pub nodes : NodesStay old_cells new_cells
  pub rest : (place : ℕ) → is_open_node old.tenant stamp (node_in old_cells place) ≡ false
      → node_in new_cells place ≡ node_in old_cells place
  pub list : new.kept ≡ old.kept

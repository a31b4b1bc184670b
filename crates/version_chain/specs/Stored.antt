-- How versions lie in a block: a head in the cell, and the bytes of the record beside it.
use Rattle.std.specs.Prelude.{◌≡◌, ◌≤◌, ℕ, List, [], ◌∷◌, length, take, Option, Some, None, false}
use Rattle.stamps.specs.Record.{Record}
use Rattle.packed.specs.Bodies.{IsPackedBody, record_in, no_record}
use Rattle.packed.specs.Sizes.{max_body_bytes}
use Rattle.version_arena.specs.Arena.{entry}
use Rattle.version_arena.specs.SlotBytes.{bytes_at}
use Rattle.version_chain.specs.declared.version.Head.{Head}
use Rattle.version_chain.specs.Node.{Node}
use Rattle.version_chain.specs.Chain.{Cells}

abbrev pub HeadCells : Type 0
HeadCells = List (Option (Head × Option ℕ))

-- the bytes of the head's record, of those that lie there
abbrev pub body_of : Head → List ℕ → List ℕ
body_of head bytes = take head.len bytes

abbrev pub record_of : Head → List ℕ → Record
record_of head bytes = record_in head.stamp (body_of head bytes)

-- the version of a head and its bytes
abbrev pub node_of : Head → List ℕ → Node
node_of head bytes =
    record {
      version = record { prepared = record_of head bytes; committed = head.committed };
      tenant = head.tenant;
      chain = head.chain;
    }

abbrev pub stored_cell : Option (Head × Option ℕ) → List ℕ → Option (Node × Option ℕ)
stored_cell None bytes = None
stored_cell (Some cell) bytes = Some (node_of cell.0 bytes, cell.1)

-- the cells of a block with these heads, and these bytes by slot
abbrev pub stored_cells : HeadCells → List (List ℕ) → Cells
stored_cells [] all = []
stored_cells (cell ∷ cells) [] = stored_cell cell [] ∷ stored_cells cells []
stored_cells (cell ∷ cells) (bytes ∷ all) = stored_cell cell bytes ∷ stored_cells cells all

-- the bytes of the head's record are there, and are those of a record of its stamp, whose tag has the length that the head says
pub record IsStored (head : Head) (bytes : List ℕ) : Type 0 where
  pub packed : IsPackedBody head.stamp (body_of head bytes)
  pub there : head.len ≤ length bytes
  pub few : head.len ≤ max_body_bytes
  pub tag : head.tag_len ≡ length (record_of head bytes).tag

abbrev pub IsStoredIn : Option (Head × Option ℕ) → List ℕ → Type 0
IsStoredIn None bytes = Unit {0}
IsStoredIn (Some cell) bytes = IsStored cell.0 bytes

-- so it is of each live cell
pub record AreStored (cells : HeadCells) (all : List (List ℕ)) : Type 0 where
  pub long : length all ≡ length cells
  pub each : (slot : ℕ) → IsStoredIn (entry cells slot) (bytes_at all slot)

-- a version with its tenant and its chain, of an empty cell any
abbrev pub no_node : Node
no_node = record { version = record { prepared = no_record; committed = false }; tenant = 0; chain = 0 }

abbrev pub node_or : Node → Option (Node × Option ℕ) → Node
node_or other None = other
node_or other (Some cell) = cell.0

-- what a live cell holds
abbrev pub stored_node : Cells → ℕ → Node
stored_node cells slot = node_or no_node (entry cells slot)

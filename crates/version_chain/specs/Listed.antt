-- The kept versions of a tenant, listed by their stamps.
use Rattle.std.specs.Prelude.{◌≡◌, ◌≢◌, ◌⊎◌, ℕ, ◌<◌, ◌≤◌, ◌==◌, ◌&&◌, if◌then◌else◌, Bool, true, false, not, nat_lt, List, ◌∷◌, count_by}
use Rattle.std.specs.Prelude.{Option, Some, None}
use Rattle.version_arena.specs.Arena.{entry}
use Rattle.version_chain.specs.Node.{Node}
use Rattle.version_chain.specs.declared.stamp_list.Kept.{Kept}
use Rattle.version_chain.specs.Heads.{Heads}
use Rattle.version_chain.specs.Chain.{Cells}

-- a version of this tenant and stamp
abbrev pub is_at_stamp : ℕ → ℕ → Option (Node × Option ℕ) → Bool
is_at_stamp tenant stamp None = false
is_at_stamp tenant stamp (Some cell) = (cell.0.tenant == tenant) && (cell.0.version.prepared.stamp == stamp)

-- the cell that is named holds a version of the tenant, of the stamp that is named
abbrev pub is_named : ℕ → Cells → Kept → Bool
is_named tenant cells kept = is_at_stamp tenant kept.stamp (entry cells kept.slot)

-- the version of a stamp in a slot
abbrev pub held_at : ℕ → ℕ → Kept
held_at stamp slot = record { stamp = stamp; slot = slot }

-- it is that one
abbrev pub is_held_at : ℕ → ℕ → Kept → Bool
is_held_at slot stamp kept = (kept.slot == slot) && (kept.stamp == stamp)

-- the second list has the versions of the first, each as often, in any order, and this one too, which is not put in where it is there
abbrev pub IsListedInto : List Kept → List Kept → Kept → Type 0
IsListedInto old new version =
    (test : Kept → Bool)
    → count_by test new ≡ count_by test (if nat_lt 0 (count_by (is_held_at version.slot version.stamp) old) then old else version ∷ old)

-- the list names each version of the tenant, by its stamp and its slot, and none twice; it may also name versions that left their cells
pub record Lists (cells : Cells) (chains : Heads) : Type 0 where
  pub once : (slot stamp : ℕ) → count_by (is_held_at slot stamp) chains.kept ≤ 1
  pub all : (slot stamp : ℕ) → is_at_stamp chains.tenant stamp (entry cells slot) ≡ true
      → 0 < count_by (is_held_at slot stamp) chains.kept

-- of this stamp it names those alone that their cells hold
abbrev pub IsSweptAt : ℕ → ℕ → Cells → List Kept → Type 0
IsSweptAt stamp tenant cells kept = count_by (λ (k : Kept). (k.stamp == stamp) && not (is_named tenant cells k)) kept ≡ 0

-- one cell that was free holds a version of the tenant and of this stamp, and no other cell of the tenant comes or goes
pub record IsPutAt (old new : Cells) (tenant stamp slot : ℕ) : Type 0 where
  pub was_free : entry old slot ≡ None
  pub held : (other : ℕ) → is_at_stamp tenant other (entry new slot) ≡ (stamp == other)
  pub rest : (place other : ℕ) → place ≢ slot
      → is_at_stamp tenant other (entry new place) ≡ is_at_stamp tenant other (entry old place)

-- no cell of the tenant comes
abbrev pub NoneCome : Cells → Cells → ℕ → Type 0
NoneCome old new tenant =
    (slot stamp : ℕ) → is_at_stamp tenant stamp (entry new slot) ≡ true
    → is_at_stamp tenant stamp (entry old slot) ≡ true

-- the version in a cell, beside its tenant and its chain
abbrev pub node_at : Option (Node × Option ℕ) → Option Node
node_at None = None
node_at (Some cell) = Some cell.0

abbrev pub node_in : Cells → ℕ → Option Node
node_in cells slot = node_at (entry cells slot)

-- each cell is free now or holds what it held
abbrev pub NodesStay : Cells → Cells → Type 0
NodesStay old new = (slot : ℕ) → (node_in new slot ≡ None) ⊎ (node_in new slot ≡ node_in old slot)

-- a version of the tenant and stamp that is not committed
abbrev pub is_open_node : ℕ → ℕ → Option Node → Bool
is_open_node tenant stamp None = false
is_open_node tenant stamp (Some node) = (node.tenant == tenant) && ((node.version.prepared.stamp == stamp) && not node.version.committed)

-- no cell of the tenant comes or goes
abbrev pub NoneMove : Cells → Cells → ℕ → Type 0
NoneMove old new tenant =
    (slot stamp : ℕ) → is_at_stamp tenant stamp (entry new slot) ≡ is_at_stamp tenant stamp (entry old slot)

-- the chain that the version in a slot stands in
abbrev pub chain_of : Option (Node × Option ℕ) → ℕ
chain_of None = 0
chain_of (Some cell) = cell.0.chain

abbrev pub chain_in : Cells → ℕ → ℕ
chain_in cells slot = chain_of (entry cells slot)

-- the same chains beside another list
abbrev pub with_kept : Heads → List Kept → Heads
with_kept chains kept =
    record {
      tenant = chains.tenant;
      share = chains.share;
      used = chains.used;
      heads = chains.heads;
      latest = chains.latest;
      kept = kept;
    }

-- the same chains, of which other latest versions are known
abbrev pub with_latest : Heads → List (Option ℕ) → Heads
with_latest chains latest =
    record {
      tenant = chains.tenant;
      share = chains.share;
      used = chains.used;
      heads = chains.heads;
      latest = latest;
      kept = chains.kept;
    }

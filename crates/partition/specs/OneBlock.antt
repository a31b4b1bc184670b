-- The cells of all tenants of a partition in one block.
use Rattle.std.specs.Prelude.{◌≡◌, ◌⊎◌, ℕ, zero, suc, ◌<◌, List, length, map, Option, Some, None}
use Rattle.std.specs.Prelude.{slice_get, count_by, is_none}
use Rattle.version_arena.specs.Arena.{entry, next_beside}
use Rattle.version_chain.specs.Chain.{Cells, is_of_tenant}
use Rattle.version_chain.specs.Sharing.{ShareBlock}
use Rattle.version_chain.specs.Heads.{Heads, head}
use Rattle.prepare_commit.specs.InBlock.{Parts, content_in, LiesIn}

-- the chains of each tenant
abbrev pub all_chains : List Parts → List Heads
all_chains cells = map (λ (c : Parts). c.chains) cells

-- the tenants share the block, and each one's cell lies in it
pub record AreInBlock (block : Cells) (cells : List Parts) : Type 0 where
  pub shared : ShareBlock block (all_chains cells)
  pub lie : (tenant : ℕ) (cell : Parts) → slice_get cells tenant ≡ Some cell → LiesIn block cell

-- the slot to which so many steps lead
abbrev pub nth_slot : Cells → ℕ → Option ℕ → Option ℕ
nth_slot cells zero from = from
nth_slot cells (suc steps) None = None
nth_slot cells (suc steps) (Some slot) = nth_slot cells steps (next_beside cells slot)

-- the slot stands at this place of this chain of the tenant
pub record StandsAtPlace (cells : Cells) (tenants : List Heads) (tenant chain place slot : ℕ) : Type 0 where
  pub chains : Heads
  pub whose : slice_get tenants tenant ≡ Some chains
  pub known : chain < length chains.heads
  pub there : nth_slot cells place (head chains chain) ≡ Some slot

-- the slot stands at just one place of just one chain of just one tenant
pub record StandsOnce (cells : Cells) (tenants : List Heads) (slot : ℕ) : Type 0 where
  pub tenant : ℕ
  pub chain : ℕ
  pub place : ℕ
  pub stands : StandsAtPlace cells tenants tenant chain place slot
  pub once : (t c p : ℕ) → StandsAtPlace cells tenants t c p slot → (t ≡ tenant) × (c ≡ chain) × (p ≡ place)

-- each cell of the block is free or stands exactly once, each tenant has as many cells as it keeps versions, and where
-- it keeps fewer than its slots, a cell is free
pub record IsShared (block : Cells) (cells : List Parts) : Type 0 where
  pub each : (slot : ℕ) → (entry block slot ≡ None) ⊎ StandsOnce block (all_chains cells) slot
  pub as_many : (tenant : ℕ) (cell : Parts) → slice_get cells tenant ≡ Some cell
      → count_by (is_of_tenant tenant) block ≡ length (content_in block cell).versions
  pub finds : (tenant : ℕ) (cell : Parts) → slice_get cells tenant ≡ Some cell
      → length (content_in block cell).versions < cell.room.slots → 0 < count_by is_none block

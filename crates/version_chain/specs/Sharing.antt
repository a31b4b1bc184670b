-- The chains of several tenants in the cells of one block.
use Rattle.std.specs.Prelude.{◌≡◌, ℕ, ◌+◌, ◌<◌, ◌≤◌, List, length, sum_by, slice_get, Option, Some}
use Rattle.version_arena.specs.Arena.{entry, live_count}
use Rattle.version_chain.specs.Node.{Node}
use Rattle.version_chain.specs.Heads.{Heads}
use Rattle.version_chain.specs.Chain.{Cells, HoldsChains, SameShape, OthersKept}

-- what a call of one tenant does: its number and its share stay, no cell of another tenant changes, and as many more or
-- fewer cells are live as it uses
pub record ChangesOwn (old_cells new_cells : Cells) (old new : Heads) : Type 0 where
  pub shape : SameShape old new
  pub others : OthersKept old_cells new_cells old.tenant
  pub live : live_count new_cells + old.used ≡ live_count old_cells + new.used

-- The tenants are numbered from 0 and share the cells: each one's cells stand in its chains, each live cell is one of a
-- tenant's, as many cells are live as the tenants use, and the shares add up to at most the cells.
pub record ShareBlock (cells : Cells) (tenants : List Heads) : Type 0 where
  pub numbered : (n : ℕ) (chains : Heads) → slice_get tenants n ≡ Some chains → chains.tenant ≡ n
  pub stand : (n : ℕ) (chains : Heads) → slice_get tenants n ≡ Some chains → HoldsChains cells chains
  pub whose : (slot : ℕ) (held : Node × Option ℕ) → entry cells slot ≡ Some held → held.0.tenant < length tenants
  pub counted : live_count cells ≡ sum_by (λ (chains : Heads). chains.used) tenants
  pub fit : sum_by (λ (chains : Heads). chains.share) tenants ≤ length cells

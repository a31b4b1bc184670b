-- The accounts of cells of whose calls no event is kept.
use Rattle.std.specs.Prelude.{◌≡◌, ℕ, List, [], ◌∷◌, length, Some, slice_get}
use Rattle.stamps.specs.declared.bounds.Limits.{Limits}
use Rattle.prepare_commit.specs.Bases.{HasStood, base_of}
use Rattle.prepare_commit.specs.InBlock.{Parts}
use Rattle.partition.specs.Accounts.{Account}
use Rattle.partition.specs.Journals.{room_for}
use Rattle.partition.specs.Shelf.{ShelfCells}
use Rattle.traced_book.specs.declared.bare_shelf.BareTenant.{BareTenant}

-- a tenant with these limits, whose cell served no call
abbrev pub new_tenant : Limits → BareTenant
new_tenant its = record { limits = its; served = 0 }

-- no event, behind as many calls as were served, at what the cell holds
abbrev pub bare_account : ShelfCells → BareTenant → Parts → Account
bare_account shelf its cell = record {
  limits = its.limits;
  start = record { number = 1; before = its.served; base = base_of shelf.block cell };
  events = [];
}

-- of each tenant whose cell is there
abbrev pub bare_accounts : ShelfCells → List BareTenant → List Parts → List Account
bare_accounts shelf [] cells = []
bare_accounts shelf (its ∷ rest) [] = []
bare_accounts shelf (its ∷ rest) (cell ∷ cells) = bare_account shelf its cell ∷ bare_accounts shelf rest cells

-- the cell has the room of the tenant's limits, and stands for some log
pub record IsCellOf (shelf : ShelfCells) (its : BareTenant) (cell : Parts) : Type 0 where
  pub room : cell.room ≡ room_for its.limits
  pub stood : HasStood shelf.block cell

-- each tenant has its cell
pub record IsBare (shelf : ShelfCells) (tenants : List BareTenant) : Type 0 where
  pub as_many : length tenants ≡ length shelf.cells
  pub each : (tenant : ℕ) (its : BareTenant) (cell : Parts) → slice_get tenants tenant ≡ Some its → slice_get shelf.cells tenant ≡ Some cell
      → IsCellOf shelf its cell

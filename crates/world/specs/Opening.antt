-- What a shelf and a tenant are as they are opened.
use Rattle.std.specs.Prelude.{◌≡◌, ℕ, ◌<◌, List, [], length, slice_get, Some}
use Rattle.plain_store.specs.Words.{setup_of}
use Rattle.stamps.specs.declared.bounds.Limits.{Limits}
use Rattle.partition.specs.Shelf.{StandsFor as CellStandsFor, room_of, tenants as seats}
use Rattle.partition.specs.declared.shelf.Shelf.{Shelf}
use Rattle.world.specs.declared.tenant.Tenant.{Tenant}
use Rattle.world.specs.Standing.{TenantStandsFor}

-- an empty cell for each of the limits
pub record IsOpenedShelf (limits : List Limits) (shelf : Shelf) : Type 0 where
  pub seats : seats shelf ≡ length limits
  pub room : (tenant : ℕ) (its : Limits) → slice_get limits tenant ≡ Some its
      → room_of shelf tenant ≡ record { slots = its.slots; items = its.items; clients = its.clients }
  pub empty : (tenant : ℕ) → tenant < length limits → CellStandsFor shelf tenant []

-- a tenant that has taken no step
pub record IsFresh (parts : ℕ) (tenant : Tenant) : Type 0 where
  pub stands : TenantStandsFor (setup_of parts tenant.limits) [] tenant

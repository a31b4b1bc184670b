-- What a world holds.
use Rattle.std.specs.Prelude.{ℕ, List, map, length, refl}
use Rattle.std.specs.Coded.{Coded, code_by, coded×, coded_list}
use Rattle.stamps.specs.declared.bounds.Limits.{Limits}
use Rattle.partition.specs.declared.shelf.Shelf.{Shelf}
use Rattle.partition.specs.contracts.shelf.Shelf as shelf
use Rattle.world.specs.declared.tenant.Tenant.{Tenant}
use Rattle.world.specs.contracts.tenant.Tenant as tenant

-- a shelf for each partition, and the tenants, each at the place of its number
pub record WorldContent : Type 0 where
  pub shelves : List Shelf
  pub tenants : List Tenant

-- a content is stored as the pair of its lists
abbrev pub world_code : Coded WorldContent
world_code =
    code_by (List Shelf × List Tenant) (coded× (coded_list shelf.the_row.coded) (coded_list tenant.the_row.coded))
    (λ c. (c.shelves, c.tenants))
    (λ p. record { shelves = p.0; tenants = p.1 }) (λ _. refl)

-- how many partitions there are
abbrev pub parts_of : WorldContent → ℕ
parts_of world = length world.shelves

-- the limits of each tenant
abbrev pub limits_of : WorldContent → List Limits
limits_of world = map (λ (tenant : Tenant). tenant.limits) world.tenants

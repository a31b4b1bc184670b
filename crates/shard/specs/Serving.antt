-- Why a seat's call for a tenant is not served at a partition.
use Rattle.std.specs.Prelude.{◌<◌, ◌≤◌, ◌↔◌, ℕ, Result, IsErrOf, List, length}
use Rattle.partition.specs.Journals.{IsLate}
use Rattle.partition.specs.Accounts.{Account, events_at}
use Rattle.shard.specs.declared.jobs.Fault.{Fault}
use Rattle.shard.specs.declared.jobs.Fault.TheVariants.{NoTenant, Late}

-- It has no tenant just where there is none of that number; and of a tenant that is there it is late just where the journal has an
-- event of this seat with that number or a later one.
pub record RefusesSo {A : Type 0} (accounts : List Account) (tenant seat number : ℕ) (result : Result A Fault) : Type 0 where
  pub no_tenant : IsErrOf result NoTenant ↔ (length accounts ≤ tenant)
  pub late : tenant < length accounts → (IsErrOf result Late ↔ IsLate (events_at accounts tenant) seat number)

-- What the calls of a tenant promise alike.
use Rattle.std.specs.Prelude.{◌≡◌, ◌<◌, ℕ, List, All, Result, length}
use Rattle.stamps.specs.Bounds.{IsClient}
use Rattle.plain_store.specs.declared.step.Act.{Act}
use Rattle.plain_store.specs.declared.answer.Answer.{Answer}
use Rattle.plain_store.specs.declared.out_of_memory.OutOfMemory.{OutOfMemory}
use Rattle.plain_store.specs.Words.{Setup}
use Rattle.plain_store.specs.History.{History}
use Rattle.tenant_sessions.specs.Sessions.{IsRun}
use Rattle.partition.specs.Shelf.{tenants as seats}
use Rattle.partition.specs.declared.shelf.Shelf.{Shelf}
use Rattle.world.specs.declared.tenant.Tenant.{Tenant}
use Rattle.world.specs.Standing.{TenantStandsFor, TenantSteps, TakesOrStays, ServesOrStays, OthersStay}
use Rattle.world.specs.Memory.{AsksLast}

-- there are partitions, and each has a cell for the tenant with this number
pub record HaveItsCells (number : ℕ) (shelves : List Shelf) : Type 0 where
  pub parts : 0 < length shelves
  pub seats : All (λ (shelf : Shelf). number < seats shelf) shelves

-- The tenant takes the act after each history that it stands for, or there was no memory and it still stands for it; an
-- allocation failed only where the act may take memory. Its limits stay.
pub record TakesAct (act : Act) (old new : Tenant) (told : Result Answer OutOfMemory) : Type 0 where
  pub takes : TakesOrStays old new act told
  pub asks : AsksLast old act told
  pub limits : new.limits ≡ old.limits

-- the same of an act of a client, if it is one
pub record TakesActOf (client : ℕ) (act : Act) (old new : Tenant) (told : Result Answer OutOfMemory) : Type 0 where
  pub takes : IsClient client → TakesOrStays old new act told
  pub asks : AsksLast old act told
  pub limits : new.limits ≡ old.limits

-- the same of an act that takes no memory
pub record TakesAtOnce (act : Act) (old new : Tenant) (answer : Answer) : Type 0 where
  pub takes : (setup : Setup) (history : History) → IsRun setup history → TenantStandsFor setup history old
      → TenantSteps setup history act answer new
  pub limits : new.limits ≡ old.limits

-- the same of an act for which the cells of the tenant with this number may serve a call; no other tenant's cell is touched
pub record ServesAct (act : Act) (number : ℕ) (old new : Tenant) (shelves after : List Shelf) (told : Result Answer OutOfMemory)
    : Type 0 where
  pub serves : ServesOrStays old new shelves after number act told
  pub asks : AsksLast old act told
  pub others : OthersStay shelves after number
  pub limits : new.limits ≡ old.limits

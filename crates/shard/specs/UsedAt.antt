-- How much the tenants use of a partition.
use Rattle.std.specs.Prelude.{◌≡◌, ◌≤◌, ℕ, List, [], ◌∷◌, length}
use Rattle.stamps.specs.Limits.{max_tenants}
use Rattle.partition.specs.Accounts.{Account}
use Rattle.partition.specs.Used.{IsUsageOf}
use Rattle.history.specs.declared.entry.HistoryEntry.{HistoryEntry}
use Rattle.traced_book.specs.Traced.{AreTraced}
use Rattle.shard.specs.Journals.{AreOf}
use Rattle.shard.specs.declared.usages.TenantUsage.{TenantUsage}

-- so much does a tenant use that has this account and had so many collections
abbrev pub IsUsed : Account → ℕ → TenantUsage → Type 0
IsUsed account count its = IsUsageOf account its.usage × (its.collections ≡ count)

-- One of each tenant with these accounts, in their order. There is a number of collections of each.
abbrev pub AreUsagesOf : List Account → List ℕ → List TenantUsage → Type 0
AreUsagesOf [] counts [] = Unit {0}
AreUsagesOf (account ∷ accounts) (count ∷ counts) (its ∷ usages) =
    IsUsed account count its × AreUsagesOf accounts counts usages
AreUsagesOf _ _ _ = ⊥

-- a state with these numbers is that of this partition, one of so many, with no more tenants than a store can have
abbrev pub IsAt : (parts partition its at : ℕ) → List Account → Type 0
IsAt parts partition its at accounts = (its ≡ parts) × (at ≡ partition) × (length accounts ≤ max_tenants)

-- At one moment the partition, one of so many, had these accounts, which each call left that the history has of it, and so many collections of each
-- tenant. The numbers are those of this moment.
pub record WereUsedAt (log : List HistoryEntry) (parts partition : ℕ) (usages : List TenantUsage) : Type 0 where
  pub accounts : List Account
  pub collections : List ℕ
  pub journals : AreOf parts partition accounts
  pub traced : AreTraced log partition accounts
  pub of_each : AreUsagesOf accounts collections usages

-- there was such a moment
abbrev pub AreUsagesAt : List HistoryEntry → ℕ → ℕ → List TenantUsage → Type 0
AreUsagesAt log parts partition usages = ∥ WereUsedAt log parts partition usages ∥₁

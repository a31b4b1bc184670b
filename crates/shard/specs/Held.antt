-- What is known of a partition under its lock.
use Rattle.std.specs.Prelude.{◌≡◌, length}
use Rattle.history.specs.declared.rule.Naming.{Ghosts}
use Rattle.traced_book.specs.Traced.{Tracing}
use Rattle.shard.specs.declared.shard.ShardConfig.{ShardConfig}
use Rattle.shard.specs.declared.shard.ShardState.{ShardState}
use Rattle.shard.specs.Journals.{AreOf}

-- its journals are those of the partition that it says it is
abbrev pub HasItsJournals : {J : Type 0} {naming : Ghosts J} → ShardState J naming → Type 0
HasItsJournals state = ∥ AreOf state.parts state.partition state.book.accounts ∥₁

-- it is the same partition, one of as many, keeps journals where it did, and its tenants had as many collections
pub record StaysAt {J : Type 0} {naming : Ghosts J} (old new : ShardState J naming) : Type 0 where
  pub partition : new.partition ≡ old.partition
  pub parts : new.parts ≡ old.parts
  pub keeps : new.book.journals ≡ old.book.journals
  pub collections : new.collections ≡ old.collections

-- The book is that of the partition with this configuration, and keeps journals where that says so: those of this partition, one of
-- each tenant.
pub record IsHandedOut (config : ShardConfig) (book : Tracing) : Type 0 where
  pub partition : book.partition ≡ config.partition
  pub keeps : book.journals ≡ config.journals
  pub journals : ∥ AreOf config.parts config.partition book.accounts ∥₁
  pub tenants : length book.accounts ≡ config.tenants

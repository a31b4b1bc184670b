-- What a tenant's turn in a round of collections does.
use Rattle.std.specs.Prelude.{◌≡◌, ◌↔◌, ◌⊎◌, ℕ, IsTrue}
use Rattle.history.specs.declared.rule.Naming.{Ghosts}
use Rattle.shard.specs.Collected.{one_more}
use Rattle.shard.specs.Rounds.{IsCollected, IsLongAt}
use Rattle.shard.specs.declared.round.Round.{Round}
use Rattle.shard.specs.declared.shard.ShardState.{ShardState}

-- The tenant whose turn it was is collected, which is counted. A journal is to be cut where one was, or where this tenant's has now
-- just as many events as an epoch.
pub record HasCollected {J : Type 0} {naming : Ghosts J} (epoch keep : ℕ) (old new : ShardState J naming) (before after : Round) : Type 0 where
  pub collected : IsCollected old.book.journals old.book.accounts new.book.accounts before.next keep
  pub keeps : new.book.journals ≡ old.book.journals
  pub counted : new.collections ≡ one_more old.collections before.next
  pub cuts : IsTrue after.cuts ↔ (IsTrue before.cuts ⊎ IsLongAt epoch new.book.accounts before.next)

-- the tenant is left out, and nothing is done
pub record HasSkipped {J : Type 0} {naming : Ghosts J} (old new : ShardState J naming) (before after : Round) : Type 0 where
  pub accounts : new.book.accounts ≡ old.book.accounts
  pub keeps : new.book.journals ≡ old.book.journals
  pub collections : new.collections ≡ old.collections
  pub cuts : after.cuts ≡ before.cuts

-- How much a tenant uses of a partition.
use Rattle.std.specs.Prelude.{◌≡◌, ◌++◌}
use Rattle.plain_store.specs.Log.{Log}
use Rattle.prepare_commit.specs.Bases.{Leaves}
use Rattle.prepare_commit.specs.HowMuch.{IsHeldAfter}
use Rattle.partition.specs.Accounts.{Account, places}
use Rattle.partition.specs.Journals.{log_after}
use Rattle.partition.specs.declared.usage.Usage.{Usage}

-- The numbers are those of a tenant with this account: its cell holds what each log leaves that the base stands for,
-- followed by the account's calls; as many places were given; and the epoch has this number.
pub record IsUsageOf (account : Account) (usage : Usage) : Type 0 where
  pub held : (log : Log) → Leaves account.start.base log
      → IsHeldAfter (log_after account.events ++ log) usage.holdings
  pub served : usage.served ≡ places account
  pub epoch : usage.epoch ≡ account.start.number

-- What is cut off a partition's journals, and how far a search for those to be cut has come.
use Rattle.std.specs.Prelude.{◌≡◌, ◌≤◌, ◌+◌, ◌-◌, ℕ, List, true, length}
use Rattle.partition.specs.declared.journal.Epoch.{Epoch}
use Rattle.partition.specs.Accounts.{Account, IsCut}
use Rattle.shard.specs.Rounds.{AreFewer, long_among}
use Rattle.shard.specs.declared.epoch_cut.Search.{Search}

-- an epoch of at least so many events was cut off this tenant's journal here, and is said to be that tenant's and of that partition
pub record IsCutOff (old new : List Account) (here whose least : ℕ) (said_partition said_tenant : ℕ) (epoch : Epoch) : Type 0 where
  pub cut : IsCut old new whose epoch
  pub partition : said_partition ≡ here
  pub tenant : said_tenant ≡ whose
  pub long : least ≤ length epoch.events.items

-- The search came to this tenant's journal, and goes on behind it. A journal that it passed over is short, where all could be cut; and it
-- counts each that could not.
pub record GoesOn (least : ℕ) (accounts : List Account) (tenant : ℕ) (old new : Search) : Type 0 where
  pub later : old.from ≤ tenant
  pub next : new.from ≡ tenant + 1
  pub passed : new.refused ≡ 0 → AreFewer least accounts old.from tenant
  pub counted : new.refused ≡ long_among least accounts old.from (tenant - old.from)
  pub going : new.is_over ≡ old.is_over

-- the search passed over all journals that were left, of which the same holds, and is over
pub record IsOver (least : ℕ) (accounts : List Account) (old new : Search) : Type 0 where
  pub passed : new.refused ≡ 0 → AreFewer least accounts old.from (length accounts)
  pub counted : new.refused ≡ long_among least accounts old.from (length accounts - old.from)
  pub over : new.is_over ≡ true

-- Where the chains of a tenant begin and their latest committed versions stand, how many cells they may have, and the
-- list of their versions.
use Rattle.std.specs.Prelude.{ℕ, List, [], Option, None, replicate, slice_index_or}
use Rattle.version_chain.specs.declared.stamp_list.Kept.{Kept}

pub record Heads : Type 0 where
  pub tenant : ℕ
  -- how many cells the tenant may have, and how many it has
  pub share : ℕ
  pub used : ℕ
  -- the first slot of each chain
  pub heads : List (Option ℕ)
  -- the slot of the latest committed version of each chain
  pub latest : List (Option ℕ)
  -- the versions in the order of their stamps
  pub kept : List Kept

-- the first slot of a chain
abbrev pub head : Heads → ℕ → Option ℕ
head chains chain = slice_index_or chains.heads chain None

-- the slot of the latest committed version of a chain
abbrev pub latest_slot : Heads → ℕ → Option ℕ
latest_slot chains chain = slice_index_or chains.latest chain None

-- so many chains of a tenant, which have no version
abbrev pub no_versions : ℕ → ℕ → ℕ → Heads
no_versions tenant share chains =
    record {
      tenant = tenant;
      share = share;
      used = 0;
      heads = replicate chains None;
      latest = replicate chains None;
      kept = [];
    }

-- Where the items lie that no call changed since the last base.
use Rattle.prepare_commit.specs.declared.last_base.LastBase.{LastBase}
use Rattle.prepare_commit.specs.Begun.{BegunBase}

-- the parts of the last base, and the spots in them
abbrev pub begun_by : LastBase → BegunBase
begun_by last = record { parts = last.parts; spots = last.spots.items }

-- What the calls of chains ask for, and what they leave.
use Rattle.std.specs.Prelude.{◌≡◌, ◌≢◌, ℕ, ◌+◌, ◌<◌, ◌≤◌, ◌==◌, false, List, length, filter, slice_range, Some, None}
use Rattle.stamps.specs.Record.{Record}
use Rattle.version_chain.specs.declared.chains.Insert.{Insert}
use Rattle.version_chain.specs.declared.chains.Insert.TheVariants.{Added, Same, Other, Full}
use Rattle.version_chain.specs.declared.stamp_list.Kept.{Kept}
use Rattle.version_chain.specs.declared.version.Version.{Version}
use Rattle.version_chain.specs.Heads.{Heads}
use Rattle.version_chain.specs.Chain.{Cells, HoldsChains, HasShare, OtherChainsKept, IsInserted, at_stamp, chain_versions}
use Rattle.version_chain.specs.Listed.{IsSweptAt, Lists, NoneMove, with_latest}
use Rattle.version_chain.specs.Sharing.{ChangesOwn}

-- ---- what they ask for

-- the chains stand in the block, and this is the number of one of them
pub record HasChain (cells : Cells) (chains : Heads) (chain : ℕ) : Type 0 where
  pub known : chain < length chains.heads
  pub stands : HoldsChains cells chains

-- a version of this stamp can be put into the chain: the tenant's share is there, of which a cell is left, and the chain
-- has none of the stamp
pub record HasRoomFor (cells : Cells) (chains : Heads) (chain stamp : ℕ) : Type 0 where
  pub share : HasShare cells chains
  pub room : chains.used < chains.share
  pub missing : at_stamp (chain_versions cells chains chain) stamp ≡ None

-- ---- what they leave

-- nothing changed
abbrev pub Unchanged : Cells → Heads → Cells → Heads → Type 0
Unchanged old_cells old new_cells new = (new_cells ≡ old_cells) × (new ≡ old)

-- the chains stand as before, but for one of them: no other chain has other versions, and no other tenant other cells
pub record ChangesChain (old_cells : Cells) (old : Heads) (new_cells : Cells) (new : Heads) (chain : ℕ) : Type 0 where
  pub own : ChangesOwn old_cells new_cells old new
  pub stands : HoldsChains new_cells new
  pub others : OtherChainsKept old_cells old new_cells new chain

-- the second have one version more, which stands in this chain
pub record HaveOneMore (less_cells : Cells) (less : Heads) (more_cells : Cells) (more : Heads) (chain : ℕ) (version : Version) : Type 0 where
  pub inserted : IsInserted (chain_versions less_cells less chain) (chain_versions more_cells more chain) version
  pub used : more.used ≡ less.used + 1

-- what an insertion of a record answers, when, and what it leaves
abbrev pub InsertAnswers : Insert → Cells → Heads → Cells → Heads → ℕ → Record → Type 0
InsertAnswers Added old_cells old new_cells new chain v =
    (at_stamp (chain_versions old_cells old chain) v.stamp ≡ None) × (old.used < old.share)
    × HaveOneMore old_cells old new_cells new chain (record { prepared = v; committed = false })
InsertAnswers Same old_cells old new_cells new chain v =
    (at_stamp (chain_versions old_cells old chain) v.stamp ≡ Some v) × Unchanged old_cells old new_cells new
InsertAnswers Other old_cells old new_cells new chain v =
    (found : Record) × (at_stamp (chain_versions old_cells old chain) v.stamp ≡ Some found) × (found ≢ v)
    × Unchanged old_cells old new_cells new
InsertAnswers Full old_cells old new_cells new chain v =
    (at_stamp (chain_versions old_cells old chain) v.stamp ≡ None) × (old.used ≡ old.share)
    × Unchanged old_cells old new_cells new

-- so many versions were freed, and where it was none, nothing changed
pub record GivesUp (count : ℕ) (old_cells : Cells) (old : Heads) (new_cells : Cells) (new : Heads) : Type 0 where
  pub used : new.used + count ≡ old.used
  pub none : count ≡ 0 → Unchanged old_cells old new_cells new

-- each chain has what this makes of its versions
abbrev pub EachChainIs : (List Version → List Version) → Cells → Heads → Cells → Heads → Type 0
EachChainIs made old_cells old new_cells new =
    (chain : ℕ) → chain < length old.heads → chain_versions new_cells new chain ≡ made (chain_versions old_cells old chain)

-- versions were marked alone: no cell of the tenant came or went, and of the chains nothing changed but which versions
-- are the latest committed ones
pub record MarksOnly (old_cells : Cells) (old : Heads) (new_cells : Cells) (new : Heads) : Type 0 where
  pub rest : new ≡ with_latest old new.latest
  pub stays : NoneMove old_cells new_cells old.tenant

-- the listed versions of the stamp stand side by side, from the first place to before the other
pub record IsRunOf (stamp : ℕ) (kept : List Kept) (first end : ℕ) : Type 0 where
  pub ordered : first ≤ end
  pub within : end ≤ length kept
  pub together : slice_range kept first end ≡ filter (λ (k : Kept). k.stamp == stamp) kept

-- the list names each version of the tenant; those that it names of the stamp stand side by side, from the first place to
-- before the other, and each of them is in its cell
pub record HoldsRun (cells : Cells) (chains : Heads) (stamp first end : ℕ) : Type 0 where
  pub list : Lists cells chains
  pub swept : IsSweptAt stamp chains.tenant cells chains.kept
  pub run : IsRunOf stamp chains.kept first end

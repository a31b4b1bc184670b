-- Where a stamp belongs in a chain, and which version is the latest committed one after a change. No public clause cites
-- this module.
use Rattle.std.specs.Prelude.{◌≡◌, ℕ, ◌+◌, ◌<◌, ◌≤◌, ◌==◌, ◌&&◌, not, Bool, true, false, nat_lt}
use Rattle.std.specs.Prelude.{List, [], ◌∷◌, ◌++◌, length, Option}
use Rattle.std.specs.Prelude.{Some, None}
use Rattle.version_arena.specs.Arena.{entry, next_beside, IsLive}
use Rattle.version_chain.specs.Node.{Node}
use Rattle.version_chain.specs.declared.version.Bound.{Bound}
use Rattle.version_chain.specs.declared.version.Bound.TheVariants.{From, Above}
use Rattle.version_chain.specs.declared.version.Version.{Version}
use Rattle.version_chain.specs.Listed.{node_in}
use Rattle.version_chain.specs.Heads.{Heads, head}
use Rattle.stamps.specs.Record.{Record}
use Rattle.version_chain.specs.Chain.{Cells, IsPath, KeepsLatest, chain_versions, follow}

-- the slot `last` is the last one of the path to `here`, or the path is empty
abbrev pub EndsAt : Cells → ℕ → ℕ → Option ℕ → List Version → Option ℕ → Option ℕ → Type 0
EndsAt cells tenant chain from above None here = (above ≡ []) × (from ≡ here)
EndsAt cells tenant chain from above (Some last) here =
    (before : List Version) × (version : Version) × (above ≡ before ++ version ∷ [])
    × IsPath cells tenant chain from before (Some last)
    × (entry cells last ≡ Some (record { tenant = tenant; chain = chain; version = version }, here))

-- no stamp is below this one
abbrev pub NoneBelow : ℕ → List Version → Type 0
NoneBelow stamp [] = Unit {0}
NoneBelow stamp (version ∷ rest) = (stamp ≤ version.prepared.stamp) × NoneBelow stamp rest

-- the first stamp is below this one
abbrev pub StartsBelow : ℕ → List Version → Type 0
StartsBelow stamp [] = Unit {0}
StartsBelow stamp (version ∷ rest) = version.prepared.stamp < stamp

-- the versions that are not below the stamp end at the slot `last`, and the others begin at the slot
-- `here`
pub record IsPlace (cells : Cells) (chains : Heads) (chain stamp : ℕ) (last here : Option ℕ) : Type 0 where
  pub above : List Version
  pub below : List Version
  pub all : chain_versions cells chains chain ≡ above ++ below
  pub ends : EndsAt cells chains.tenant chain (head chains chain) above last here
  pub goes_on : IsPath cells chains.tenant chain here below None
  pub not_less : NoneBelow stamp above
  pub less : StartsBelow stamp below

-- the least stamp within a bound
abbrev pub least_of : Bound → ℕ
least_of (From stamp) = stamp
least_of (Above stamp) = stamp + 1

-- a version of the tenant's chain whose stamp is not below this one
abbrev pub is_near_node : ℕ → ℕ → ℕ → Option Node → Bool
is_near_node tenant chain least None = false
is_near_node tenant chain least (Some node) =
    (node.tenant == tenant) && ((node.chain == chain) && not (nat_lt node.version.prepared.stamp least))

-- the slot, if there is one, is one of the chain, and its stamp is not below this one
abbrev pub IsNear : Cells → Heads → ℕ → ℕ → Option ℕ → Type 0
IsNear cells chains chain least None = Unit {0}
IsNear cells chains chain least (Some slot) = is_near_node chains.tenant chain least (node_in cells slot) ≡ true

-- the slot, if there is one, holds a version
abbrev pub IsLiveSlot : Cells → Option ℕ → Type 0
IsLiveSlot cells None = Unit {0}
IsLiveSlot cells (Some slot) = IsLive cells slot

-- the slot after one of a chain, or its head
abbrev pub slot_after : Cells → Heads → ℕ → Option ℕ → Option ℕ
slot_after cells chains chain None = head chains chain
slot_after cells chains chain (Some slot) = next_beside cells slot

-- the stamp is above that of the record, or there is none
abbrev pub is_past : Option Record → ℕ → Bool
is_past None stamp = true
is_past (Some found) stamp = nat_lt found.stamp stamp

-- the record is there and of this stamp
abbrev pub is_at : Option Record → ℕ → Bool
is_at None stamp = false
is_at (Some found) stamp = found.stamp == stamp

-- the versions from a slot on
abbrev pub versions_from : Cells → Option ℕ → List Version
versions_from cells from = follow cells (length cells) from

-- the slot that is kept will do once the version at the slot `here` is gone
abbrev pub KeepsLatestBut : Cells → Heads → ℕ → ℕ → Option ℕ → Type 0
KeepsLatestBut cells chains chain here kept =
    (stamp : ℕ) (last : Option ℕ) (place : IsPlace cells chains chain stamp last (Some here))
    (version : Version) (rest : List Version)
    → place.below ≡ version ∷ rest → KeepsLatest cells chains.tenant chain (place.above ++ rest) kept

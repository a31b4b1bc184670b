-- A part of a base while it is packed.
use Rattle.std.specs.Prelude.{◌≡◌, ℕ, ◌<◌, ◌≤◌, List, length, slice_index_or}
use Rattle.packed.specs.Cuts.{IsCut, pieces}
use Rattle.version_chain.specs.Chain.{Cells}
use Rattle.prepare_commit.specs.declared.ahead.NewPart.{NewPart}
use Rattle.prepare_commit.specs.declared.items.ChainedItem.{ChainedItem}
use Rattle.prepare_commit.specs.declared.last_base.LastBase.{LastBase}
use Rattle.prepare_commit.specs.declared.versions.Versions.{Versions}
use Rattle.prepare_commit.specs.Begun.{Holding, IsKeptSince, beside, put_at}
use Rattle.prepare_commit.specs.Calls.{lists_of}

-- the item is one of these
abbrev pub StandsIn : List ChainedItem → ChainedItem → Type 0
StandsIn items i = (nth : ℕ) × (nth < length items) × (i ≡ slice_index_or items nth i)

-- what it has
abbrev pub packed_in : NewPart → List Holding
packed_in part = beside part.entries.items (pieces part.found 0 part.ends.items)

-- with this part at its number, each item is as a part has it whose chain is not noted
pub record PacksInto (free : ℕ) (block : Cells) (versions : Versions) (items : List ChainedItem) (last : LastBase) (part : NewPart) : Type 0 where
  pub cut : IsCut 0 part.ends.items (length part.found)
  pub many : length part.ends.items ≡ length part.entries.items
  pub within : free ≤ length last.parts
  pub spots : length last.spots.items ≡ length (lists_of block versions)
  pub long : length last.since ≡ length (lists_of block versions)
  pub kept : IsKeptSince (record { parts = put_at last.parts free (packed_in part); spots = last.spots.items }) last.since items (lists_of block versions)

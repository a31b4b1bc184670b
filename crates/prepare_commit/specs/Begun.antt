-- What a base has of each item, in parts that bases share, and which items are still as a part has them.
use Rattle.std.specs.Prelude.{◌≡◌, ◌≢◌, ◌<◌, ◌≤◌, ◌==◌, ℕ, zero, suc, ◌+◌, ◌-◌, ◌^◌, min, Bool, false, ◌&&◌, not, All, List, [], ◌∷◌, length, Option, Some, None, map, count_by, slice_get, slice_index_or}
use Rattle.std.specs.List.{range_with_len, sum_by}
use Rattle.version_chain.specs.declared.version.Version.{Version}
use Rattle.prepare_commit.specs.declared.items.KnownItem.{KnownItem}
use Rattle.prepare_commit.specs.declared.items.ChainedItem.{ChainedItem}
use Rattle.prepare_commit.specs.declared.parts.EntryPosition.{EntryPosition}
use Rattle.prepare_commit.specs.Layout.{chain_at, IsVersionOf}
use Rattle.prepare_commit.specs.Remembered.{is_changed}

-- the entry of an item, and its versions
pub record Holding : Type 0 where
  pub entry : KnownItem
  pub versions : List Version

-- each entry with the versions at its place
abbrev pub beside : List KnownItem → List (List Version) → List Holding
beside [] chains = []
beside (e ∷ entries) [] = []
beside (e ∷ entries) (versions ∷ chains) = record { entry = e; versions = versions } ∷ beside entries chains

-- what lies at a place of one of the parts
abbrev pub held_at : List (List Holding) → EntryPosition → Option Holding
held_at parts place = slice_get (slice_index_or parts place.part []) place.at

-- how many lie in all parts, as far as a `usize` can count them
abbrev pub entries_of : List (List Holding) → ℕ
entries_of parts = min (sum_by (λ part. length part) parts) (2 ^ 64 - 1)

-- these lie at the places
abbrev pub LieAt : List (List Holding) → List EntryPosition → List Holding → Type 0
LieAt parts places all = map (held_at parts) places ≡ map Some all

-- nothing
abbrev pub none_held : Holding
none_held = record { entry = record { key = []; floor = 0 }; versions = [] }

-- what lies at the places
abbrev pub found : Option Holding → Holding
found None = none_held
found (Some h) = h

abbrev pub listed : List (List Holding) → List EntryPosition → List Holding
listed parts places = map (λ (place : EntryPosition). found (held_at parts place)) places

-- what the items have
abbrev pub holding_of : List (List Version) → ChainedItem → Holding
holding_of chains i = record { entry = i.entry; versions = chain_at chains i.chain }

abbrev pub holdings : List ChainedItem → List (List Version) → List Holding
holdings items chains = map (holding_of chains) items

abbrev pub entries_in : List Holding → List KnownItem
entries_in all = map (λ (h : Holding). h.entry) all

abbrev pub lists_in : List Holding → List (List Version)
lists_in all = map (λ (h : Holding). h.versions) all

-- the versions are each of their entry's item
abbrev pub AreOwn : List Holding → Type 0
AreOwn all = All (λ (h : Holding). All (IsVersionOf h.entry.key) h.versions) all

-- the parts, and for each chain where its item lies in them
pub record BegunBase : Type 0 where
  pub parts : List (List Holding)
  pub spots : List EntryPosition

-- a place like any other
abbrev pub no_place : EntryPosition
no_place = record { part = 0; at = 0 }

-- the item lies where the spot of its chain is
abbrev pub IsAsBegun : BegunBase → List (List Version) → ChainedItem → Type 0
IsAsBegun begun chains i = held_at begun.parts (slice_index_or begun.spots i.chain no_place) ≡ Some (holding_of chains i)

-- each item is as a part has it whose chain was not noted since
abbrev pub IsKeptSince : BegunBase → List Bool → List ChainedItem → List (List Version) → Type 0
IsKeptSince begun since items chains =
    All (λ (i : ChainedItem). is_changed since i ≡ false → IsAsBegun begun chains i) items

-- what was noted still is, and each chain was noted that has a version of the stamp
abbrev pub IsNotedAt : ℕ → List Bool → List Bool → List (List Version) → Type 0
IsNotedAt stamp old new chains =
    (chain : ℕ) → slice_index_or new chain false ≡ false
    → (slice_index_or old chain false ≡ false)
    × (count_by (λ (v : Version). v.prepared.stamp == stamp) (chain_at chains chain) ≡ 0)

-- no item lies in the part whose chain was not noted
abbrev pub IsFree : List EntryPosition → List Bool → List ChainedItem → ℕ → Type 0
IsFree spots since items part =
    All (λ (i : ChainedItem). is_changed since i ≡ false → (slice_index_or spots i.chain no_place).part ≢ part) items

-- of the first so many chains none lies in the part that was not noted
abbrev pub IsLeft : List EntryPosition → List Bool → ℕ → ℕ → Type 0
IsLeft spots since chains part =
    (chain : ℕ) → chain < chains → slice_index_or since chain false ≡ false → (slice_index_or spots chain no_place).part ≢ part

-- the chain was not noted, and lies in the part
abbrev pub is_kept_in : List EntryPosition → List Bool → ℕ → ℕ → Bool
is_kept_in spots since part chain = not (slice_index_or since chain false) && ((slice_index_or spots chain no_place).part == part)

-- of how many of the first so many chains this holds
abbrev pub kept_in : List EntryPosition → List Bool → ℕ → ℕ → ℕ
kept_in spots since chains part = count_by (is_kept_in spots since part) (range_with_len 0 chains)

-- a part can be put there, in the place of one that is free or at the end
abbrev pub HasRoomAt : BegunBase → List Bool → List ChainedItem → ℕ → Type 0
HasRoomAt begun since items part = IsFree begun.spots since items part × (part ≤ length begun.parts)

-- what was noted still is
abbrev pub NotesMore : List Bool → List Bool → Type 0
NotesMore old new =
    (length new ≡ length old) × ((chain : ℕ) → slice_index_or new chain false ≡ false → slice_index_or old chain false ≡ false)

-- and at most so many chains more are noted, or just so many
abbrev pub NotesFew : ℕ → List Bool → List Bool → Type 0
NotesFew most old new = count_by (λ b. b) new ≤ count_by (λ b. b) old + most

abbrev pub NotesJust : ℕ → List Bool → List Bool → Type 0
NotesJust more old new = count_by (λ b. b) new ≡ count_by (λ b. b) old + more

-- a part in the place of another, or at the end
abbrev pub put_at : List (List Holding) → ℕ → List Holding → List (List Holding)
put_at [] at part = part ∷ []
put_at (p ∷ parts) zero part = part ∷ parts
put_at (p ∷ parts) (suc at) part = p ∷ put_at parts at part

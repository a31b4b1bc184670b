-- How a version is packed, and what is read of it.
use Rattle.std.specs.Prelude.{◌≡◌, ◌==◌, ℕ, Bool, List, [], ◌∷◌, ◌++◌, map, Option, Some, None, if◌then◌else◌}
use Rattle.std.specs.Int.{w64, to_le_bytes}
use Rattle.std.specs.List.{AllByRecursion}
use Rattle.stamps.specs.Record.{Record}
use Rattle.packed.specs.Bodies.{packed_body, record_in}
use Rattle.packed.specs.Packing.{IsStoreRecord}
use Rattle.packed.specs.Reading.{◌>>=◌, byte_at, stamp_at}
use Rattle.version_chain.specs.declared.version.Version.{Version}

-- the byte of a mark
abbrev pub mark_of : Bool → ℕ
mark_of committed = if committed then 1 else 0

-- a byte for the mark, the stamp, and the other bytes of the record
abbrev pub packed_version : Version → List ℕ
packed_version v = mark_of v.committed ∷ to_le_bytes w64 v.prepared.stamp ++ packed_body v.prepared

abbrev pub version_from : ℕ → Record → Version
version_from mark prepared = record { prepared = prepared; committed = mark == 1 }

unfoldable pub version_at : List ℕ → Option Version
version_at bytes = do
  mark ← byte_at bytes
  stamp ← stamp_at mark.1
  Some (version_from mark.0 (record_in stamp.0 stamp.1))

abbrev pub version_or : Version → Option Version → Version
version_or other None = other
version_or other (Some v) = v

abbrev pub no_record : Record
no_record = record { key = []; tag = []; value = []; stamp = 0; writes = [] }

-- the version that the bytes are packed of; of other bytes, any
abbrev pub version_in : List ℕ → Version
version_in bytes = version_or (version_from 0 no_record) (version_at bytes)

-- the bytes are those of a version, and nothing else
abbrev pub IsPackedVersion : List ℕ → Type 0
IsPackedVersion bytes = IsStoreRecord (version_in bytes).prepared × (bytes ≡ packed_version (version_in bytes))

abbrev pub ArePackedVersions : List (List ℕ) → Type 0
ArePackedVersions = AllByRecursion IsPackedVersion

abbrev pub versions_in : List (List ℕ) → List Version
versions_in = map version_in

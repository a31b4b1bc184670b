-- Records without their stamps, for bytes that are kept beside the stamp.
use Rattle.std.specs.Prelude.{◌≡◌, ◌≤◌, ℕ, ◌+◌, min, List, [], ◌++◌, length, take, Option, Some, None}
use Rattle.stamps.specs.Record.{Record}
use Rattle.packed.specs.Packing.{packed_text, packed_keys, IsStoreRecord}
use Rattle.packed.specs.Sizes.{max_key_bytes, max_tag_bytes}
use Rattle.packed.specs.Reading.{◌>>=◌, key_at, tag_at, value_at, writes_at, record_from}

-- part by part, but for the stamp
abbrev pub packed_body : Record → List ℕ
packed_body r = packed_text r.key ++ packed_text r.tag ++ packed_text r.value ++ packed_keys r.writes

-- the bytes are the body of a record of the store that has this stamp
abbrev pub IsPackedBody : ℕ → List ℕ → Type 0
IsPackedBody stamp bytes = (r : Record) × IsStoreRecord r × (r.stamp ≡ stamp) × (bytes ≡ packed_body r)

-- the bytes are the first ones of a body: all of them, or at least as many as a key and a tag take
pub record IsFront (front body : List ℕ) : Type 0 where
  pub same : front ≡ take (length front) body
  pub long : min (length body) (max_key_bytes + max_tag_bytes) ≤ length front

-- what is read of a body, of which the stamp is known
unfoldable pub body_at : ℕ → List ℕ → Option (Record × List ℕ)
body_at stamp bytes = do
  key ← key_at bytes
  tag ← tag_at key.1
  value ← value_at tag.1
  writes ← writes_at value.1
  r ← record_from key.0 tag.0 value.0 stamp writes.0
  Some (r, writes.1)

abbrev pub no_record : Record
no_record = record { key = []; tag = []; value = []; stamp = 0; writes = [] }

abbrev pub record_or : Record → Option (Record × List ℕ) → Record
record_or other None = other
record_or other (Some read) = read.0

-- the record with this stamp whose body the bytes are; of other bytes, any
abbrev pub record_in : ℕ → List ℕ → Record
record_in stamp bytes = record_or no_record (body_at stamp bytes)

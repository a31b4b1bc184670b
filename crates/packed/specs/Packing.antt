-- How the store's values are packed.
use Rattle.std.specs.Prelude.{◌≡◌, ◌<◌, ◌^◌, ℕ, nat_lt, List, [], ◌∷◌, ◌++◌, length, Option, Some, None, if◌then◌else◌}
use Rattle.std.specs.List.{flat_map, AllByRecursion}
use Rattle.std.specs.Int.{w64, to_le_bytes}
use Rattle.stamps.specs.Stamp.{IsStamp}
use Rattle.stamps.specs.Key.{IsKey}
use Rattle.stamps.specs.Tag.{IsTag}
use Rattle.stamps.specs.Value.{IsValue}
use Rattle.stamps.specs.WriteSet.{IsWriteSet}
use Rattle.stamps.specs.Record.{Record, IsRecord}

-- ---- numbers, texts and keys

-- a number below 255 is a byte; another stands in 8 bytes behind a byte of 255
abbrev pub packed_number : ℕ → List ℕ
packed_number n = if nat_lt n 255 then n ∷ [] else 255 ∷ to_le_bytes w64 n

-- a byte with the length, and that many bytes
abbrev pub packed_text : List ℕ → List ℕ
packed_text text = length text ∷ text

-- a byte with the count, and that many keys
abbrev pub packed_keys : List (List ℕ) → List ℕ
packed_keys keys = length keys ∷ flat_map packed_text keys

-- ---- records

-- part by part, the stamp in 8 bytes
abbrev pub packed_record : Record → List ℕ
packed_record r =
    packed_text r.key ++ packed_text r.tag ++ packed_text r.value ++ to_le_bytes w64 r.stamp ++ packed_keys r.writes

-- what each record of the store meets
pub record IsStoreRecord (r : Record) : Type 0 where
  pub key : IsKey r.key
  pub tag : IsTag r.tag
  pub value : IsValue r.value
  pub stamp : IsStamp r.stamp
  pub writes : IsWriteSet r.writes
  pub keys : AllByRecursion IsKey r.writes
  pub whole : IsRecord r

-- ---- what was packed is read again

-- where bytes begin with a packed one of these, what is read is that one, and what stands behind it
abbrev pub IsReadAgain : {X : Type 0} → (X → List ℕ) → (X → Type 0) → Option (X × List ℕ) → List ℕ → Type 0
IsReadAgain {X} packed IsOne read bytes =
    (x : X) (rest : List ℕ) → IsOne x → bytes ≡ packed x ++ rest → read ≡ Some (x, rest)

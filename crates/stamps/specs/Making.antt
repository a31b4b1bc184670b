-- What parts that were read make: a text, a write set, a record. Where they are not in range they make none.
use Rattle.std.specs.Prelude.{ℕ, Bool, true, ◌&&◌, nat_lt, nat_le, List, [], ◌∷◌, length, Option, Some, None}
use Rattle.std.specs.Prelude.{if◌then◌else◌, bytes_eq}
use Rattle.std.specs.List.{list_all, list_any}
use Rattle.std.specs.Ordering.{is_lt}
use Rattle.stamps.specs.Limits.{max_keys}
use Rattle.stamps.specs.Key.{key_cmp}
use Rattle.stamps.specs.Record.{Record}

-- `least` to `most` bytes, each of which passes the test
unfoldable pub text_from : (ℕ → Bool) → ℕ → ℕ → List ℕ → Option (List ℕ)
text_from allowed least most text =
    if nat_le least (length text) && nat_le (length text) most && list_all allowed text then Some text else None

-- each key is below the next
abbrev pub is_ascending : List (List ℕ) → Bool
is_ascending [] = true
is_ascending (key ∷ []) = true
is_ascending (j ∷ k ∷ keys) = is_lt (key_cmp j k) && is_ascending (k ∷ keys)

-- at most `max_keys` keys in byte order, each once
unfoldable pub writes_from : List (List ℕ) → Option (List (List ℕ))
writes_from keys = if nat_le (length keys) max_keys && is_ascending keys then Some keys else None

-- the record with this write set, unless the stamp is `0.0` or the key is not in the set
abbrev pub record_from : List ℕ → List ℕ → List ℕ → ℕ → List (List ℕ) → Option Record
record_from key tag value stamp writes =
    if nat_lt 0 stamp && list_any (bytes_eq key) writes then Some
    (record { key = key; tag = tag; value = value; stamp = stamp; writes = writes }) else None

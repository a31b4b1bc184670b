-- What the reader of each packed value finds at the front of bytes, for the clauses of those readers. That they find
-- what was packed is proved of them.
use Rattle.std.specs.Prelude.{ℕ, zero, suc, ◌&&◌, ◌||◌, ◌==◌, nat_lt, nat_le, List, [], ◌∷◌}
use Rattle.std.specs.Prelude.{length, take, drop}
use Rattle.std.specs.Prelude.{Option, Some, None, option_and_then, if◌then◌else◌}
use Rattle.std.specs.Int.{w64, from_le_bytes}
use Rattle.std.specs.Option.{option_map_or}
use Rattle.stamps.specs.Limits.{max_keys, max_key_len, max_tag_len, max_value_len, max_counter}
use Rattle.stamps.specs.Text.{is_name_byte, is_visible_byte}
use Rattle.stamps.specs.Stamp.{counter_of, client_of}
use Rattle.stamps.specs.Record.{Record}
pub use Rattle.stamps.specs.Making.{text_from, writes_from, record_from}

-- a step that may find nothing, and what is done with what it finds
infixl 10 ◌>>=◌
abbrev pub ◌>>=◌ : {A B : Type 0} → Option A → (A → Option B) → Option B
o >>= f = option_and_then f o

abbrev pub byte_at : List ℕ → Option (ℕ × List ℕ)
byte_at [] = None
byte_at (byte ∷ rest) = Some (byte, rest)

-- 8 bytes, the lowest first
abbrev pub wide_at : List ℕ → Option (ℕ × List ℕ)
wide_at bytes = if nat_lt (length bytes) 8 then None else Some (from_le_bytes w64 (take 8 bytes), drop 8 bytes)

unfoldable pub number_at : List ℕ → Option (ℕ × List ℕ)
number_at bytes = do
  first ← byte_at bytes
  if nat_lt first.0 255 then Some first else wide_at first.1

-- a number below 2^32
unfoldable pub count_at : List ℕ → Option (ℕ × List ℕ)
count_at bytes = do
  n ← number_at bytes
  if nat_lt 4294967295 n.0 then None else Some n

unfoldable pub text_at : List ℕ → Option (List ℕ × List ℕ)
text_at bytes = do
  len ← byte_at bytes
  if nat_lt (length len.1) len.0 then None else Some (take len.0 len.1, drop len.0 len.1)

-- `0.0`, or a counter and a client that are both positive
abbrev pub stamp_from : ℕ → Option ℕ
stamp_from n =
    if n == 0 then Some 0 else
    (if nat_lt 0 (counter_of n) && nat_le (counter_of n) max_counter && nat_lt 0 (client_of n) then Some n else None)

unfoldable pub stamp_at : List ℕ → Option (ℕ × List ℕ)
stamp_at bytes = do
  n ← wide_at bytes
  stamp ← stamp_from n.0
  Some (stamp, n.1)

abbrev pub key_from : List ℕ → Option (List ℕ)
key_from = text_from is_name_byte 1 max_key_len

abbrev pub tag_from : List ℕ → Option (List ℕ)
tag_from = text_from is_name_byte 0 max_tag_len

abbrev pub value_from : List ℕ → Option (List ℕ)
value_from = text_from is_visible_byte 0 max_value_len

unfoldable pub key_at : List ℕ → Option (List ℕ × List ℕ)
key_at bytes = do
  text ← text_at bytes
  key ← key_from text.0
  Some (key, text.1)

unfoldable pub tag_at : List ℕ → Option (List ℕ × List ℕ)
tag_at bytes = do
  text ← text_at bytes
  tag ← tag_from text.0
  Some (tag, text.1)

unfoldable pub value_at : List ℕ → Option (List ℕ × List ℕ)
value_at bytes = do
  text ← text_at bytes
  value ← value_from text.0
  Some (value, text.1)

-- so many keys
unfoldable pub keys_at : ℕ → List ℕ → Option (List (List ℕ) × List ℕ)
keys_at zero bytes = Some ([], bytes)
keys_at (suc n) bytes = do
  key ← key_at bytes
  more ← keys_at n key.1
  Some (key.0 ∷ more.0, more.1)

-- so many keys alone, or none where fewer are there
abbrev pub keys_in : ℕ → List ℕ → List (List ℕ)
keys_in count bytes = option_map_or (λ read. read.0) (keys_at count bytes) []

-- a write set of so many keys
unfoldable pub writes_of : ℕ → List ℕ → Option (List (List ℕ) × List ℕ)
writes_of count bytes = do
  keys ← keys_at count bytes
  writes ← writes_from keys.0
  Some (writes, keys.1)

unfoldable pub writes_at : List ℕ → Option (List (List ℕ) × List ℕ)
writes_at bytes = do
  count ← byte_at bytes
  if (count.0 == 0) || nat_lt max_keys count.0 then None else writes_of count.0 count.1

unfoldable pub record_at : List ℕ → Option (Record × List ℕ)
record_at bytes = do
  key ← key_at bytes
  tag ← tag_at key.1
  value ← value_at tag.1
  stamp ← stamp_at value.1
  writes ← writes_at stamp.1
  r ← record_from key.0 tag.0 value.0 stamp.0 writes.0
  Some (r, writes.1)

-- What the reader of each part of a line finds, from left to right, for the clauses of those readers. That
-- they find what the grammar spells, and nothing else, is proved of them.
use Rattle.std.specs.Prelude.{ℕ, ◌-◌, ◌^◌, Bool, false, ◌&&◌, ◌==◌, nat_lt, nat_le, List, [], ◌∷◌}
use Rattle.std.specs.Prelude.{Option, Some, None, option_and_then, if◌then◌else◌, codes, bytes_eq}
use Rattle.std.specs.List.{list_all, slice_split}
use Rattle.std.specs.Str.Parse.{digits_value}
use Rattle.stamps.specs.Limits.{max_key_len, max_tag_len, max_value_len, max_counter}
use Rattle.stamps.specs.Text.{is_between, is_name_byte, is_visible_byte}
use Rattle.stamps.specs.Stamp.{stamp}
use Rattle.stamps.specs.Record.{Record}
pub use Rattle.stamps.specs.Making.{text_from, writes_from, record_from}
use Rattle.plain_store.specs.declared.calls.Call.{Call}
use Rattle.plain_store.specs.declared.calls.Call.TheVariants.{Prepare, Commit, Get, Found, Collect, Discard}
use Rattle.line_protocol.specs.Spelling.{space, hash, comma, dot, equals, at_sign}

-- a step that may find nothing, and what is done with what it finds
infixl 10 ◌>>=◌
abbrev pub ◌>>=◌ : {A B : Type 0} → Option A → (A → Option B) → Option B
o >>= f = option_and_then f o

-- what stands before and after the first such byte, if there is one
unfoldable pub split_first : ℕ → List ℕ → Option (List ℕ × List ℕ)
split_first byte [] = None
split_first byte (b ∷ bs) = if b == byte then Some ([], bs) else (split_first byte bs >>= λ p. Some (b ∷ p.0, p.1))

-- each byte is a digit
abbrev pub all_digits : List ℕ → Bool
all_digits = list_all (is_between 48 57)

-- one digit, or more of which the first is above 0
abbrev pub is_numeral : List ℕ → Bool
is_numeral [] = false
is_numeral (digit ∷ []) = is_between 48 57 digit
is_numeral (first ∷ second ∷ others) = is_between 49 57 first && all_digits (second ∷ others)

-- the number that a numeral names, up to `most`
unfoldable pub number_at : ℕ → List ℕ → Option ℕ
number_at most text =
    if is_numeral text && nat_le (digits_value 10 text) most then Some (digits_value 10 text) else None

-- the stamp of a counter and a client: both are above 0, or both are 0
abbrev pub stamp_from : ℕ → ℕ → Option ℕ
stamp_from counter client =
    if (counter == 0) && (client == 0) then Some 0 else
    (if nat_lt 0 counter && nat_lt 0 client then Some (stamp counter client) else None)

-- COUNTER.CLIENT
unfoldable pub stamp_at : List ℕ → Option ℕ
stamp_at text = do
  p ← split_first dot text
  counter ← number_at max_counter p.0
  client ← number_at (2 ^ 16 - 1) p.1
  stamp_from counter client

-- 1 to `max_key_len` bytes
abbrev pub key_at : List ℕ → Option (List ℕ)
key_at = text_from is_name_byte 1 max_key_len

-- 1 to `max_tag_len` bytes: a tag that is written has a byte at least
abbrev pub tag_at : List ℕ → Option (List ℕ)
tag_at = text_from is_name_byte 1 max_tag_len

-- up to 128 bytes
abbrev pub value_at : List ℕ → Option (List ℕ)
value_at = text_from is_visible_byte 0 max_value_len

-- what stands before the first such byte, and what follows that byte, if there is one
abbrev pub part_by : List ℕ → Option (List ℕ × List ℕ) → List ℕ × Option (List ℕ)
part_by text None = (text, None)
part_by text (Some p) = (p.0, Some p.1)

unfoldable pub part_at : ℕ → List ℕ → List ℕ × Option (List ℕ)
part_at byte text = part_by text (split_first byte text)

-- the parts of a text between such bytes, and none where there is no text
abbrev pub parts_in : ℕ → Option (List ℕ) → List (List ℕ)
parts_in byte None = []
parts_in byte (Some text) = slice_split (λ b. b == byte) text

-- each part as this reader reads it, if it can read each
unfoldable pub each_at : {A : Type 0} → (List ℕ → Option A) → List (List ℕ) → Option (List A)
each_at at [] = Some []
each_at at (part ∷ parts) = at part >>= λ a. each_at at parts >>= λ more. Some (a ∷ more)

-- the keys between the commas, if they are 1 to `max_keys` in byte order, each once
unfoldable pub writes_at : List ℕ → Option (List (List ℕ))
writes_at text = do
  keys ← each_at key_at (parts_in comma (Some text))
  writes_from keys

-- what stands before a tag, and the tag, which may be missing
abbrev pub tagged_by : List ℕ → Option (List ℕ × List ℕ) → Option (List ℕ × List ℕ)
tagged_by text None = Some (text, [])
tagged_by text (Some p) = tag_at p.1 >>= λ tag. Some (p.0, tag)

unfoldable pub tagged_at : List ℕ → Option (List ℕ × List ℕ)
tagged_at text = tagged_by text (split_first hash text)

-- KEY@STAMP=VALUE, or KEY@STAMP#TAG=VALUE
unfoldable pub record_at : List ℕ → List (List ℕ) → Option Record
record_at text writes = do
  p ← split_first equals text
  value ← value_at p.1
  q ← split_first at_sign p.0
  key ← key_at q.0
  t ← tagged_at q.1
  stamp ← stamp_at t.0
  record_from key t.1 value stamp writes

-- ---- a cell's calls, by the words after the command

-- RECORD KEYS
unfoldable pub prepare_at : List ℕ → Option Call
prepare_at words = do
  p ← split_first space words
  writes ← writes_at p.1
  r ← record_at p.0 writes
  Some (Prepare r)

-- STAMP
unfoldable pub commit_at : List ℕ → Option Call
commit_at words = stamp_at words >>= λ stamp. if stamp == 0 then None else Some (Commit stamp)

-- KEY, or KEY STAMP
abbrev pub get_by : List ℕ → Option (List ℕ × List ℕ) → Option Call
get_by words None = key_at words >>= λ key. Some (Get key None)
get_by words (Some p) = key_at p.0 >>= λ key. stamp_at p.1 >>= λ stamp. Some (Get key (Some stamp))

unfoldable pub get_at : List ℕ → Option Call
get_at words = get_by words (split_first space words)

-- TAG
unfoldable pub found_at : List ℕ → Option Call
found_at words = tag_at words >>= λ tag. Some (Found tag)

-- KEEP
unfoldable pub collect_at : List ℕ → Option Call
collect_at words = number_at (2 ^ 8 - 1) words >>= λ keep. if keep == 0 then None else Some (Collect keep)

-- STAMP, which may be `0.0`
unfoldable pub discard_at : List ℕ → Option Call
discard_at words = stamp_at words >>= λ stamp. Some (Discard stamp)

-- the command decides how its words are read
abbrev pub call_by : List ℕ → List ℕ → Option Call
call_by command words =
    if bytes_eq command (codes "prepare") then prepare_at words
    else (if bytes_eq command (codes "commit") then commit_at words
    else (if bytes_eq command (codes "get") then get_at words
    else (if bytes_eq command (codes "found") then found_at words
    else (if bytes_eq command (codes "collect") then collect_at words
    else (if bytes_eq command (codes "discard") then discard_at words
    else None)))))

-- a command, a space and words
unfoldable pub call_at : List ℕ → Option Call
call_at line = do
  p ← split_first space line
  call_by p.0 p.1

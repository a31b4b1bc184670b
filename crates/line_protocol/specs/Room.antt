-- How much room the texts that are written take.
use Rattle.std.specs.Prelude.{◌≡◌, ℕ, ◌+◌, ◌*◌, ◌≤◌, ◌↔◌, max, List, ◌++◌, length, Result, IsOk, OnOk, OnErr}
use Rattle.bytes.specs.Filled.{Filled}
use Rattle.line_protocol.specs.declared.write.NoRoom.{NoRoom}
use Rattle.stamps.specs.Limits.{max_keys, max_key_len, max_tag_len, max_value_len}

-- A buffer got this text behind what stood in it, of so many bytes at most. Its room is as great as it was.
pub record Appends (most : ℕ) (old new : Filled) (text : List ℕ) : Type 0 where
  pub items : new.items ≡ old.items ++ text
  pub used : old.spare ≤ new.spare + most
  pub kept : length new.items + new.spare ≡ length old.items + old.spare

-- A buffer got this line behind what stood in it. That is so exactly where it had this many bytes spare; where it had
-- not, it is as it was. Its room does not get smaller.
pub record WritesLine (limit : ℕ) (line : List ℕ) (old new : Filled) (result : Result (Unit {0}) NoRoom) : Type 0 where
  pub succeeds : IsOk result ↔ (limit ≤ old.spare)
  pub ok : OnOk result (new.items ≡ old.items ++ line)
  pub err : OnErr result (new ≡ old)
  pub room : length old.items + old.spare ≤ length new.items + new.spare

-- ---- how long each text is at most

abbrev pub number_room : ℕ
number_room = 20

abbrev pub stamp_room : ℕ
stamp_room = number_room + 1 + number_room

abbrev pub key_room : ℕ
key_room = max_key_len

-- a tag after its `#`
abbrev pub tag_room : ℕ
tag_room = 1 + max_tag_len

-- a key, `@`, a stamp, a tag, `=` and a value
abbrev pub record_room : ℕ
record_room = key_room + 1 + stamp_room + tag_room + 1 + max_value_len

-- a transaction's keys, each with the byte before it
abbrev pub keys_room : ℕ
keys_room = max_keys * (1 + key_room)

-- `refused` and a number
abbrev pub refusal_room : ℕ
refusal_room = 8 + number_room

-- a word and a number
abbrev pub count_room : ℕ
count_room = 10 + number_room

-- `version`, a record, `writes` and its keys
abbrev pub reply_room : ℕ
reply_room = 8 + record_room + 8 + keys_room

-- `rows` and two numbers, with `-`
abbrev pub rows_room : ℕ
rows_room = 5 + number_room + 1 + number_room

-- a space and rows
abbrev pub ending_room : ℕ
ending_room = 1 + rows_room

-- a word, a stamp, and rows or a key
abbrev pub stamped_rows_room : ℕ
stamped_rows_room = 8 + stamp_room + 1 + max rows_room key_room

-- a tag, `=` and a value
abbrev pub written_room : ℕ
written_room = tag_room + 1 + max_value_len

-- a key, `@`, a stamp and these
abbrev pub reading_room : ℕ
reading_room = key_room + 1 + stamp_room + written_room

-- a space and a reading
abbrev pub spaced_reading_room : ℕ
spaced_reading_room = 1 + reading_room

-- a transaction's readings, each with a space
abbrev pub readings_room : ℕ
readings_room = max_keys * spaced_reading_room

-- a word and these
abbrev pub answer_room : ℕ
answer_room = 5 + readings_room

-- How many bytes packed calls, replies, acts and answers take at most.
use Rattle.std.specs.Prelude.{ℕ, ◌+◌, ◌*◌}
use Rattle.stamps.specs.Limits.{max_keys}
use Rattle.packed.specs.Sizes.{max_number_bytes, stamp_bytes, max_item_bytes, max_keys_bytes, max_record_bytes}

-- a call: a byte for its form, and a record at most
abbrev pub max_call_bytes : ℕ
max_call_bytes = 1 + max_record_bytes

-- how many items stand under a tag, and keys of them
abbrev pub max_found_bytes : ℕ
max_found_bytes = max_number_bytes + max_keys_bytes

-- a reply: a byte for its form, and a record at most
abbrev pub max_reply_bytes : ℕ
max_reply_bytes = 1 + max_record_bytes

-- the first row and the last
abbrev pub max_rows_bytes : ℕ
max_rows_bytes = 2 * max_number_bytes

-- an item and its stamp
abbrev pub max_reading_bytes : ℕ
max_reading_bytes = max_item_bytes + stamp_bytes

-- as many readings as a transaction has keys, behind their count
abbrev pub max_readings_bytes : ℕ
max_readings_bytes = max_number_bytes + max_keys * max_reading_bytes

-- an answer: a byte for its form, and readings at most
abbrev pub max_answer_bytes : ℕ
max_answer_bytes = 1 + max_readings_bytes

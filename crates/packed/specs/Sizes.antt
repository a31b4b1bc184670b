-- How many bytes packed values take at most.
use Rattle.std.specs.Prelude.{ℕ, ◌+◌, ◌*◌}
use Rattle.stamps.specs.Limits.{max_keys, max_key_len, max_tag_len, max_value_len}

-- a number: a byte, or that and eight more
abbrev pub max_number_bytes : ℕ
max_number_bytes = 9

abbrev pub stamp_bytes : ℕ
stamp_bytes = 8

-- a key behind its length
abbrev pub max_key_bytes : ℕ
max_key_bytes = 1 + max_key_len

-- a tag behind its length
abbrev pub max_tag_bytes : ℕ
max_tag_bytes = 1 + max_tag_len

-- a value behind its length
abbrev pub max_value_bytes : ℕ
max_value_bytes = 1 + max_value_len

-- a key, a tag and a value
abbrev pub max_item_bytes : ℕ
max_item_bytes = max_key_bytes + max_tag_bytes + max_value_bytes

-- a transaction's keys behind their count
abbrev pub max_keys_bytes : ℕ
max_keys_bytes = 1 + max_keys * max_key_bytes

-- an item, its stamp and the keys of its write set
abbrev pub max_record_bytes : ℕ
max_record_bytes = max_item_bytes + stamp_bytes + max_keys_bytes

-- a record without its stamp
abbrev pub max_body_bytes : ℕ
max_body_bytes = max_item_bytes + max_keys_bytes

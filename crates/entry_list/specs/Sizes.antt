-- How many bytes packed entries take at most.
use Rattle.std.specs.Prelude.{ℕ, ◌+◌, ◌*◌}
use Rattle.packed.specs.Sizes.{max_number_bytes}
use Rattle.packed_steps.specs.Sizes.{max_answer_bytes, max_reply_bytes}

-- the entry of a reply: a byte for its form, a number, a partition, a place and the reply
abbrev pub max_took_bytes : ℕ
max_took_bytes = 1 + 3 * max_number_bytes + max_reply_bytes

-- the entry of an answer: a byte for its form, and the answer
abbrev pub max_answered_bytes : ℕ
max_answered_bytes = 1 + max_answer_bytes

-- How many bytes a packed event takes at most.
use Rattle.std.specs.Prelude.{ℕ, ◌+◌, ◌*◌}
use Rattle.packed.specs.Sizes.{max_number_bytes}
use Rattle.packed_steps.specs.Sizes.{max_call_bytes, max_reply_bytes}

-- a seat, a number, a call and its reply
abbrev pub max_event_bytes : ℕ
max_event_bytes = 2 * max_number_bytes + max_call_bytes + max_reply_bytes

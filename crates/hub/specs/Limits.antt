-- How many calls one operation of a seat may need: it comes from the limits of the store.
use Rattle.std.specs.Prelude.{ℕ, ◌+◌, ◌*◌, ◌-◌, ◌^◌}
use Rattle.stamps.specs.Limits.{max_keys, max_parts}

-- the most calls of one operation: a search asks each partition, and then reads as many keys as a transaction names in
-- two rounds
abbrev pub max_calls : ℕ
max_calls = max_parts + 2 * max_keys

-- a seat that has sent more calls begins no operation, so that no call has a number above 2^62
abbrev pub last_call : ℕ
last_call = 2 ^ 62 - max_calls

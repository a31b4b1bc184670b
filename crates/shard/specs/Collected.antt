-- How many collections the tenants of a partition had.
use Rattle.std.specs.Prelude.{ℕ, ◌+◌, ◌-◌, ◌^◌, List, get_or, min, set}

-- this tenant had one more; a number that has come to 2^64 - 1 stays there
abbrev pub one_more : List ℕ → ℕ → List ℕ
one_more counts tenant = set counts tenant (min (get_or counts tenant 0 + 1) (2 ^ 64 - 1))

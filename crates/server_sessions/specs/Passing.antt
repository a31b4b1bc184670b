-- Which errors of an `accept` pass.
use Rattle.std.specs.Prelude.{ℤ, Bool, false, List, Option, Some, None}
use Rattle.std.specs.List.{list_any}
use Rattle.std.specs.Ordering.{int_eq}
use Rattle.server_sessions.specs.declared.listener.TheConstants.{PASSING}

-- there is a code, and it is one of these
abbrev pub is_one_of : List ℤ → Option ℤ → Bool
is_one_of codes None = false
is_one_of codes (Some code) = list_any (λ other. int_eq other code) codes

-- the system gave this code, and it is one of those that pass
abbrev pub is_passing : Option ℤ → Bool
is_passing = is_one_of PASSING

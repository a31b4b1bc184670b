-- The marks that DISCARDs leave, one for each client: a version of its client that is not above the mark is not taken
-- any more.
use Rattle.std.specs.Prelude.{ℕ, List, [], ◌∷◌, ◌++◌, Bool, ◌==◌, nat_eq, nat_lt, if◌then◌else◌, map, filter}
use Rattle.std.specs.Prelude.{option_to_list}
use Rattle.std.specs.List.{list_any}
use Rattle.stamps.specs.Stamp.{client_of, greatest}
use Rattle.plain_store.specs.Words.{Stamp}
use Rattle.plain_store.specs.Log.{Log, discarded_by}

-- the stamps of the DISCARDs that count
abbrev pub discarded : Log → List Stamp
discarded [] = []
discarded (e ∷ before) = option_to_list (discarded_by e.call e.reply) ++ discarded before

-- whether the stamp is one of the client's
abbrev pub is_of_client : ℕ → Stamp → Bool
is_of_client client stamp = client_of stamp == client

-- the greatest stamp of the client that was discarded, 0 where there is none
abbrev pub mark : Log → ℕ → Stamp
mark log client = greatest (filter (is_of_client client) (discarded log))

-- the numbers, each but once
abbrev pub once_each : List ℕ → List ℕ
once_each [] = []
once_each (n ∷ ns) = if list_any (nat_eq n) ns then once_each ns else n ∷ once_each ns

-- the clients that have a mark; the stamp 0 leaves none
abbrev pub marked : Log → List ℕ
marked log = once_each (map client_of (filter (nat_lt 0) (discarded log)))

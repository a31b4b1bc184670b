-- How many calls a client's running transaction may still ask for, by what it is.
use Rattle.std.specs.Prelude.{ℕ, ◌+◌, ◌*◌, cond, length, Option, Some, None}
use Rattle.stamps.specs.Limits.{max_found}
use Rattle.plain_store.specs.History.{Intent, Writes, Gets, Finds}
use Rattle.put_all.specs.Writer.{calls_left as write_left}
use Rattle.get_all.specs.Reader.{calls_left as read_left}
use Rattle.get_all.specs.TagSearch.{calls_left as find_left}
use Rattle.tenant_sessions.specs.Holding.{Machine, Write, Read, Find}
use Rattle.tenant_sessions.specs.Moves.{Move, sends_calls, ending}
use Rattle.tenant_sessions.specs.declared.running.Running.{Running}

abbrev pub machine_left : Machine → ℕ
machine_left (Write stamp writer) = write_left writer
machine_left (Read reader) = read_left reader
machine_left (Find search reader) = find_left search reader

-- how many what runs may still ask for, besides those that it waits for
abbrev pub calls_left : Option Running → ℕ
calls_left None = 0
calls_left (Some running) = machine_left running.machine

-- how many it waits for
abbrev pub calls_waiting : Option Running → ℕ
calls_waiting None = 0
calls_waiting (Some running) = length running.waiting

-- how many are sent with a move after which so many are waited for
abbrev pub calls_sent : Move → ℕ → ℕ
calls_sent move waiting = cond (sends_calls move) waiting (length (ending move))

-- The most that a transaction sends in a store of so many partitions: a write and a read two for each key, and a search one
-- to each partition and two for each of the keys that it lists.
abbrev pub most_calls : ℕ → Intent → ℕ
most_calls parts (Writes stamp items) = 2 * length items
most_calls parts (Gets keys) = 2 * length keys
most_calls parts (Finds tag) = parts + 2 * max_found

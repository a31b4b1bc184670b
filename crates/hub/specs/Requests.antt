-- What an operation is asked to do.
use Rattle.std.specs.Prelude.{ℕ, ◌+◌, ◌*◌, min, length, Result}
use Rattle.stamps.specs.Limits.{max_found, max_keys}
use Rattle.plain_store.specs.declared.refusal.Refusal.{Refusal}
use Rattle.plain_store.specs.declared.step.Act.{Act}
use Rattle.plain_store.specs.declared.step.Act.TheVariants.{Put as PutAct, Get as GetAct, Find as FindAct}
use Rattle.plain_store.specs.History.{Intent, Writes, Gets, Finds}
use Rattle.plain_store.specs.Words.{Stamp}
use Rattle.tenant_sessions.specs.declared.session.ClientSession.{ClientSession}
use Rattle.tenant_sessions.specs.Held.{test_idle, test_put, test_get}
use Rattle.hub.specs.declared.seat_request.SeatRequest.{SeatRequest}
use Rattle.hub.specs.declared.seat_request.SeatRequest.TheVariants.{Put, Get, Find}

-- the act that it is, of this client
abbrev pub act_of : ℕ → SeatRequest → Act
act_of client (Put items) = PutAct client items.now
act_of client (Get keys) = GetAct client keys.now
act_of client (Find tag) = FindAct client tag

-- what a session begins for it, under this stamp if it writes
abbrev pub intent_of : Stamp → SeatRequest → Intent
intent_of own (Put items) = Writes own items.now
intent_of own (Get keys) = Gets keys.now
intent_of own (Find tag) = Finds tag

-- why the client's session does not begin it, if it does not
abbrev pub test_of : ClientSession → SeatRequest → Result (Unit {0}) Refusal
test_of session (Put items) = test_put session items.now
test_of session (Get keys) = test_get session keys.now
test_of session (Find tag) = test_idle session

-- The calls for which a request makes room, in a store of so many partitions: two for each item or key, of as many as a
-- transaction names, and for a search one to each partition and then those of a read.
abbrev pub calls_for : ℕ → SeatRequest → ℕ
calls_for parts (Put items) = 2 * min (length items.now) max_keys
calls_for parts (Get keys) = 2 * min (length keys.now) max_keys
calls_for parts (Find tag) = parts + 2 * max_found

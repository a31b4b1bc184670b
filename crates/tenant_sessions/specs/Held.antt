-- What is held of one client, and how calls change it.
use Rattle.std.specs.Prelude.{◌≡◌, ℕ, ◌+◌, ◌-◌, ◌<◌, ◌^◌, max, min, List, [], Bool, true, not, cond, Option}
use Rattle.std.specs.Prelude.{Some, None, Result, Ok, Err}
use Rattle.std.specs.Prelude.{is_some, nat_le}
use Rattle.stamps.specs.Key.{sorted_keys}
use Rattle.stamps.specs.Stamp.{counter_of}
use Rattle.stamps.specs.declared.record.Item.{Item}
use Rattle.plain_store.specs.declared.message.Message.{Message}
use Rattle.plain_store.specs.declared.refusal.Refusal.{Refusal}
use Rattle.plain_store.specs.declared.refusal.Refusal.TheVariants.{Busy, BadItems, StampsUsed, Stopped}
use Rattle.plain_store.specs.Run.{are_bad, counter_limit}
use Rattle.plain_store.specs.Words.{Key, Setup}
use Rattle.plain_store.specs.Writing.{keys_written}
use Rattle.plain_store.specs.History.{Intent, Writes, Gets, Finds, counter_in}
use Rattle.tenant_sessions.specs.declared.begin.Beginning.{Beginning}
use Rattle.tenant_sessions.specs.declared.begin.Beginning.TheVariants.{Put, Get, Find}
use Rattle.tenant_sessions.specs.Moves.{Move}
use Rattle.tenant_sessions.specs.declared.running.Running.{Running}
use Rattle.tenant_sessions.specs.declared.session.ClientSession.{ClientSession}
use Rattle.tenant_sessions.specs.Moves.{is_last, is_ignored}
use Rattle.tenant_sessions.specs.Running.{RunningStands, Starts, TakesMessage}

abbrev pub test_open : ClientSession → Result (Unit {0}) Refusal
test_open held = cond held.is_open (Ok tt) (Err Stopped)

abbrev pub test_idle : ClientSession → Result (Unit {0}) Refusal
test_idle held = cond held.is_open (cond (is_some held.running) (Err Busy) (Ok tt)) (Err Stopped)

-- why a write of these items does not begin, if it does not
abbrev pub test_put : ClientSession → List Item → Result (Unit {0}) Refusal
test_put held items =
    cond held.is_open
    (cond (is_some held.running) (Err Busy)
    (cond (are_bad (keys_written items)) (Err BadItems)
    (cond (nat_le counter_limit held.counter) (Err StampsUsed) (Ok tt))))
    (Err Stopped)

-- why a read of these keys does not begin, if it does not
abbrev pub test_get : ClientSession → List Key → Result (Unit {0}) Refusal
test_get held keys =
    cond held.is_open
    (cond (is_some held.running) (Err Busy) (cond (are_bad keys) (Err BadItems) (Ok tt)))
    (Err Stopped)

-- what begins, as a request
abbrev pub request_begun : Beginning → Intent
request_begun (Put stamp items writes) = Writes stamp items.now
request_begun (Get keys) = Gets keys.now
request_begun (Find tag) = Finds tag

-- the stamp that a write has
abbrev pub stamp_or : ℕ → Beginning → ℕ
stamp_or other (Put stamp items writes) = stamp
stamp_or other (Get keys) = other
stamp_or other (Find tag) = other

-- the keys of a write's items, in byte order
abbrev pub keys_begun : Beginning → List Key
keys_begun (Put stamp items writes) = sorted_keys (keys_written items.now)
keys_begun (Get keys) = []
keys_begun (Find tag) = []

-- the write set that a write begins with
abbrev pub writes_begun : Beginning → List Key
writes_begun (Put stamp items writes) = writes
writes_begun (Get keys) = []
writes_begun (Find tag) = []

-- a write has items that may be written
abbrev pub is_writable : Beginning → Bool
is_writable (Put stamp items writes) = not (are_bad (keys_written items.now))
is_writable (Get keys) = true
is_writable (Find tag) = true

-- what the tests found of a write: that a client drew its stamp, that its items may be written, and their write set
pub record IsTested (kind : Beginning) : Type 0 where
  pub stamped : 0 < stamp_or 1 kind
  pub writable : is_writable kind ≡ true
  pub writes : writes_begun kind ≡ keys_begun kind

-- the counter of the stamp that a write draws
abbrev pub drawn_counter : Intent → ℕ
drawn_counter (Writes stamp items) = counter_of stamp
drawn_counter (Gets keys) = 0
drawn_counter (Finds tag) = 0

-- tickets stop at the greatest number of the machine's
abbrev pub next_ticket : ℕ → ℕ
next_ticket ticket = min (ticket + 1) (2 ^ 64 - 1)

-- the session once a transaction began, which drew a stamp of this counter
abbrev pub begins_as : ClientSession → ℕ → Running → ClientSession
begins_as held counter running = record {
  is_open = held.is_open;
  counter = max counter held.counter;
  ticket = next_ticket held.ticket;
  running = Some running;
}

-- the session once the request's transaction began
pub record BeginsIn (setup : Setup) (request : Intent) (old new : ClientSession) : Type 0 where
  pub running : Running
  pub starts : Starts setup request running
  pub is : new ≡ begins_as old (drawn_counter request) running

-- what is held of a transaction that goes on stands for these replies
abbrev pub GoesOn : Setup → Intent → List Message → Option Running → Type 0
GoesOn setup request taken None = ⊥
GoesOn setup request taken (Some running) = RunningStands setup request taken running

-- A reply that is taken raises the counter to the one that it reports, and an ignored one does not;
-- a transaction that ends is forgotten.
pub record TakesReply (setup : Setup) (request : Intent) (taken : List Message) (message : Message)
    (old : ClientSession) (answer : Move) (new : ClientSession) : Type 0 where
  pub takes : TakesMessage setup request taken message answer (λ replies. GoesOn setup request replies new.running)
  pub ended : is_last answer ≡ true → new.running ≡ None
  pub counter : new.counter ≡ cond (is_ignored answer) old.counter (max (counter_in message.reply) old.counter)
  pub is_open : new.is_open ≡ old.is_open
  pub ticket : new.ticket ≡ old.ticket

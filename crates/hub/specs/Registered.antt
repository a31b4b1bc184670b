-- Who has a session, and what is kept of the clients that had one.
use Rattle.std.specs.Prelude.{◌≡◌, ◌≢◌, ◌⊎◌, ◌+◌, ◌<◌, ◌≤◌, ℕ, Bool, false, true, Option, None, Some, IsSome, IsSomeAnd, Result, Err, IfErr, IfOk, All, cond, length, max, min, nat_eq, nat_le, nat_lt, slice_get, ◌||◌, ◌^◌, ◌-◌}
use Rattle.std.specs.Option.{option_map_or}
use Rattle.indexmap.specs.IndexMap.{IsEmpty, get, index_map_len, spare}
use Rattle.plain_store.specs.declared.refusal.Refusal.{Refusal}
use Rattle.plain_store.specs.declared.refusal.Refusal.TheVariants.{Busy, ClientsFull, RowsUsed, OutOfMemory}
use Rattle.hub.specs.declared.register.Register.{Register}
use Rattle.hub.specs.declared.register.KnownClient.{KnownClient}
use Rattle.hub.specs.declared.register.Admission.{Admission}
use Rattle.hub.specs.declared.clients.AdmissionCheck.{AdmissionCheck}
use Rattle.hub.specs.declared.clients.Departure.{Departure}
use Rattle.hub.specs.Seats.{SeatView}
use Rattle.shard.specs.declared.seat_name.SeatName.{SeatName}
use Rattle.traced_client.specs.Clients.{is_of_word}

-- what is kept of a tenant's client, if it had a session
abbrev pub known_of : Register → ℕ → ℕ → Option KnownClient
known_of register tenant client = option_map_or (λ rows. get nat_eq rows client) (slice_get register.tenants.items tenant) None

-- how many clients of a tenant had a session
abbrev pub clients_of : Register → ℕ → ℕ
clients_of register tenant = option_map_or (λ rows. index_map_len rows) (slice_get register.tenants.items tenant) 0

-- whether it has a session now
abbrev pub has_session : Option KnownClient → Bool
has_session known = option_map_or (λ (row : KnownClient). row.is_open) known false

-- how many transactions it began
abbrev pub tickets_of : Option KnownClient → ℕ
tickets_of known = option_map_or (λ (row : KnownClient). row.ticket) known 0

-- whether it had one
abbrev pub is_known : Option KnownClient → Bool
is_known known = option_map_or (λ _. true) known false

-- Why a client of which this is kept may have no session, if it may not: it has one; it is new, and its tenant has as many clients
-- as it may have; or the numbers of seats, or of its transactions, are used up.
abbrev pub admission_test : (seats clients : ℕ) → Option KnownClient → ℕ → Option Refusal
admission_test seats clients known most =
    cond (has_session known) (Some Busy)
    (cond (cond (is_known known) false (nat_le most clients)) (Some ClientsFull)
    (cond (nat_le (2 ^ 62) seats || nat_lt (2 ^ 62) (tickets_of known)) (Some RowsUsed) None))

-- the refusals of a client of a tenant that is there: 12, 24, 26, and 30 where an allocation failed
abbrev pub is_unopened : Refusal → Bool
is_unopened Busy = true
is_unopened ClientsFull = true
is_unopened RowsUsed = true
is_unopened OutOfMemory = true
is_unopened refusal = false

-- The next session of a client: its seat is the next one, and so is its turn; its counter is the greater of the one that is kept
-- and the base.
abbrev pub next_session : ℕ → Option KnownClient → ℕ → Admission
next_session seats known base = record {
  seat = seats + 1;
  turn = min (option_map_or (λ (row : KnownClient). row.turn) known 0 + 1) (2 ^ 64 - 1);
  counter = max (option_map_or (λ (row : KnownClient). row.counter) known base) base;
  ticket = tickets_of known;
}

-- a seat's name has what its session has
abbrev pub IsNamedBy : Admission → SeatName → Type 0
IsNamedBy its name = (name.seat ≡ its.seat) × (name.turn ≡ its.turn) × (name.counter ≡ its.counter)

-- what was there as a client of a tenant asked for a session
abbrev pub check_of : Register → ℕ → ℕ → AdmissionCheck
check_of register tenant client = record {
  tenant = tenant;
  client = client;
  known = known_of register tenant client;
  clients = clients_of register tenant;
  seats = register.seats;
  is_taken = false;
}

-- What a client that asked for a session of its tenant got, by what was there then, and where the tenant may have so many clients.
pub record IsDecidedBy (check : AdmissionCheck) (tenant client most base : ℕ) (opened : Result SeatView Refusal) : Type 0 where
  pub whose : (check.tenant ≡ tenant) × (check.client ≡ client)
  -- It is refused by the first of the tests that it did not pass.
  pub tested : (refusal : Refusal) → admission_test check.seats check.clients check.known most ≡ Some refusal → opened ≡ Err refusal
  -- Where it passed them all it may still be refused: 12 where its word was with another seat, 26 where the numbers of words or clocks were
  -- used up, and 30 where an allocation failed.
  pub passed : admission_test check.seats check.clients check.known most ≡ None
      → IfErr opened (λ refusal. (is_of_word refusal ≡ true) × (refusal ≡ Busy → check.is_taken ≡ true))
  -- Its session is the next one, and goes on at the greater of the counter that was kept of it and the base.
  pub next : IfOk opened (λ seat. IsNamedBy (next_session check.seats check.known base) seat.name)

-- what is kept of a client whose session began so
abbrev pub opened_row : Admission → KnownClient
opened_row its = record { is_open = true; counter = its.counter; ticket = its.ticket; turn = its.turn }

-- What is kept of a client once its session of this turn ended with this counter, after so many transactions. A later session of
-- it goes on.
abbrev pub after_session : (turn counter ticket : ℕ) → KnownClient → KnownClient
after_session turn counter ticket row =
    cond (nat_eq row.turn turn) (record row { is_open = false; counter = max row.counter counter; ticket = ticket }) row

-- the client has no session, and its next one goes on at this counter or above it
abbrev pub IsFreeFrom : ℕ → Option KnownClient → Type 0
IsFreeFrom counter known =
    (has_session known ≡ false) × ((seats base : ℕ) → counter ≤ (next_session seats known base).counter)

-- so it is with what is kept of the client now, if the row that was kept before was that of the session of this turn
abbrev pub SetsFree : (turn counter : ℕ) → (old new : Option KnownClient) → Type 0
SetsFree turn counter old new = (row : KnownClient) → old ≡ Some row → row.turn ≡ turn → IsFreeFrom counter new

-- the session of this name ended, with this counter
pub record HasLeft (name : SeatName) (counter : ℕ) (departure : Departure) : Type 0 where
  pub tenant : departure.tenant ≡ name.tenant
  pub client : departure.client ≡ name.client
  pub turn : departure.turn ≡ name.turn
  pub counter_is : departure.counter ≡ counter

-- it did after so many transactions, with the client's word or without it
pub record IsDeparture (name : SeatName) (counter ticket : ℕ) (has_word : Bool) (departure : Departure) : Type 0 where
  pub left : HasLeft name counter departure
  pub ticket_is : departure.ticket ≡ ticket
  pub word_is : departure.has_word ≡ has_word

-- there is room for what is kept of the client
abbrev pub HasRoomFor : Register → ℕ → ℕ → Type 0
HasRoomFor register tenant client =
    IsSomeAnd (slice_get register.tenants.items tenant) (λ rows. IsSome (get nat_eq rows client) ⊎ (0 < spare rows))

-- another client, or one of another tenant
abbrev pub IsAnother : ℕ → ℕ → ℕ → ℕ → Type 0
IsAnother tenant client other_tenant other = (other_tenant ≢ tenant) ⊎ (other ≢ client)

-- so many tenants, of which none has a client, and no seat yet
pub record HasNoClients (count : ℕ) (register : Register) : Type 0 where
  pub clients : All (λ rows. IsEmpty rows) register.tenants.items
  pub tenants : length register.tenants.items ≡ count
  pub seats : register.seats ≡ 0

-- what is kept of each client stays, and so do the numbers of the seats
pub record KeepsClients (old new : Register) : Type 0 where
  pub kept : (of_tenant other : ℕ) → known_of new of_tenant other ≡ known_of old of_tenant other
  pub seats : new.seats ≡ old.seats

-- of this client that is kept now, and of each other what was kept before
pub record KeepsOf (tenant client : ℕ) (row : Option KnownClient) (old new : Register) : Type 0 where
  pub known : known_of new tenant client ≡ row
  pub others : (of_tenant other : ℕ) → IsAnother tenant client of_tenant other → known_of new of_tenant other ≡ known_of old of_tenant other

-- What the seats of a load draw, and what they do with it.
use Rattle.std.specs.Prelude.{[], ℕ, All, ◌+◌, ◌*◌, ◌/◌, ◌%◌, ◌^◌, ◌==◌, nat_lt, min, Bool, List, ◌∷◌, map, take}
use Rattle.std.specs.Prelude.{◌≡◌, if◌then◌else◌, decimal, codes, zero, suc, Option, Some, None}
use Rattle.std.specs.List.{flat_map, filter_map, range_with_len}
use Rattle.load.specs.declared.mix.RoundKind.{RoundKind}
use Rattle.load.specs.declared.mix.RoundKind.TheVariants.{Put, Get, Find}
use Rattle.load.specs.declared.mix.DrawnRound.{DrawnRound}
use Rattle.stamps.specs.declared.record.Item.{Item}
use Rattle.closed_store.specs.declared.transcript.Transcript.{Transcript}
use Rattle.hub.specs.declared.clients.Departure.{Departure}
use Rattle.entry_list.specs.declared.kinds.Entry.{Entry}
use Rattle.entry_list.specs.declared.kinds.Entry.TheVariants.{Began, Took, Answered}
use Rattle.plain_store.specs.declared.step.Act.{Act}
use Rattle.plain_store.specs.declared.step.Act.TheVariants.{Put as PutAct, Get as GetAct, Find as FindAct}

-- the number from which the seat of a client of a tenant draws at first
abbrev pub first_state : ℕ → ℕ → ℕ → ℕ
first_state seed tenant client = seed * 65536 + tenant * 1024 + client

-- the number from which is drawn after this one
abbrev pub next_state : ℕ → ℕ
next_state state = (state * 6364136223846793005 + 1442695040888963407) % 2 ^ 64

-- what is drawn that leaves this number
abbrev pub drawn : ℕ → ℕ
drawn state = state / 2 ^ 32

-- five of ten rounds put, four get, and one searches
abbrev pub kind_of : ℕ → RoundKind
kind_of number = if nat_lt (number % 10) 5 then Put else (if nat_lt (number % 10) 9 then Get else Find)

-- the round that three draws make of a number, where there are so many keys
abbrev pub drawn_round : ℕ → ℕ → ℕ → ℕ → DrawnRound
drawn_round keys one two three =
    record { kind = kind_of one; first = two % keys; count = 1 + three % 4; searches_even = two % 2 == 0 }

-- the round that is drawn from a number
abbrev pub round_from : ℕ → ℕ → DrawnRound
round_from keys state =
    drawn_round keys (drawn (next_state state)) (drawn (next_state (next_state state)))
    (drawn (next_state (next_state (next_state state))))

-- the key of a number
abbrev pub key_of : ℕ → List ℕ
key_of number = 107 ∷ decimal number

-- the tag of even or odd
abbrev pub tag_of : Bool → List ℕ
tag_of even = if even then codes "even" else codes "odd"

-- the keys of four numbers from this one on, of so many
abbrev pub four_keys : ℕ → ℕ → List (List ℕ)
four_keys first keys =
    key_of (first % keys) ∷ key_of ((first + 1) % keys) ∷ key_of ((first + 2) % keys) ∷ key_of ((first + 3) % keys) ∷ []

-- the item that a round of this number puts at a key
abbrev pub item_of_round : ℕ → List ℕ → Item
item_of_round nth key = record { key = key; tag = tag_of (nth % 2 == 0); value = decimal nth }

-- what a client begins with these keys in a round of this number, by its kind
abbrev pub act_of_kind : RoundKind → ℕ → List (List ℕ) → ℕ → Bool → Act
act_of_kind Put client keys nth even = PutAct client (map (item_of_round nth) keys)
act_of_kind Get client keys nth even = GetAct client keys
act_of_kind Find client keys nth even = FindAct client (tag_of even)

-- what a client begins in a round of this number that it drew, where there are so many keys
abbrev pub act_of_round : ℕ → ℕ → ℕ → DrawnRound → Act
act_of_round client keys nth round =
    act_of_kind round.kind client (take (min round.count 4) (four_keys round.first keys)) nth round.searches_even

-- the number from which is drawn after so many rounds, each of which takes three numbers
abbrev pub state_after : ℕ → ℕ → ℕ
state_after zero state = state
state_after (suc rounds) state = next_state (next_state (next_state (state_after rounds state)))

-- what a client begins in the first of these rounds, in their order, that draws from this number
abbrev pub acts_drawn : (client keys rounds state : ℕ) → List Act
acts_drawn client keys rounds state =
    map (λ done. act_of_round client keys (done + 1) (round_from keys (state_after done state)))
    (range_with_len 0 rounds)

-- the act that an entry says was begun
abbrev pub act_in : Entry → Option Act
act_in (Began act) = Some act
act_in (Took number partition place reply) = None
act_in (Answered answer) = None

-- the transcript is that of a client of a tenant, which began just the acts that it drew, in their order
pub record IsOfSeat (seed rounds keys tenant client : ℕ) (transcript : Transcript) : Type 0 where
  pub of_tenant : transcript.tenant ≡ tenant
  pub of_client : transcript.client ≡ client
  pub drawn : filter_map act_in transcript.entries.items ≡ acts_drawn client keys rounds (first_state seed tenant client)

-- the client's session ended in the register of the hub
pub record IsGivenBack (tenant client : ℕ) (departure : Departure) : Type 0 where
  pub its_tenant : departure.tenant ≡ tenant
  pub its_client : departure.client ≡ client

-- the seats of the first clients of a tenant, so many, in their order
abbrev pub seats_of_tenant : ℕ → ℕ → List (ℕ × ℕ)
seats_of_tenant seats tenant = map (λ client. (tenant, client)) (range_with_len 1 seats)

-- the seats of the first clients of each of so many tenants, in their order
abbrev pub seats_of : ℕ → ℕ → List (ℕ × ℕ)
seats_of tenants seats = flat_map (seats_of_tenant seats) (range_with_len 0 tenants)

-- of whom a transcript is
abbrev pub seat_of : Transcript → ℕ × ℕ
seat_of transcript = (transcript.tenant, transcript.client)

-- a transcript of each of these seats, in their order, each of which began just the acts that it drew
pub record AreOfSeats (seed rounds keys : ℕ) (seats : List (ℕ × ℕ)) (transcripts : List Transcript) : Type 0 where
  pub named : map seat_of transcripts ≡ seats
  pub drawn : All (λ (t : Transcript). IsOfSeat seed rounds keys t.tenant t.client t) transcripts

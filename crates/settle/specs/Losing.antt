-- A history in which messages were lost, beside one in which they were not.
use Rattle.std.specs.Prelude.{◌≡◌, ℕ, ◌==◌, Bool, false, List, Option, Some, None}
use Rattle.std.specs.List.{list_any}
use Rattle.plain_store.specs.Words.{Setup}
use Rattle.settle.specs.Words.{Act, Deliver, Lose}
use Rattle.plain_store.specs.History.{History, Transaction, messages, lost_rows, message_at, keep_in, log_at, session}
use Rattle.plain_store.specs.History.{clients_known, tickets, taken, running, counter, decided}

-- whether the message of a row was lost
abbrev pub is_lost : History → ℕ → Bool
is_lost history row = list_any (λ l. l == row) (lost_rows history)

-- the transactions differ in nothing but how many steps were before their own
pub record IsSameTransaction (one other : Transaction) : Type 0 where
  pub client : one.client ≡ other.client
  pub ticket : one.ticket ≡ other.ticket
  pub request : one.request ≡ other.request

-- the same runs after both, or nothing does
abbrev pub RunsAlike : Option Transaction → Option Transaction → Type 0
RunsAlike None None = Unit {0}
RunsAlike None (Some other) = ⊥
RunsAlike (Some one) None = ⊥
RunsAlike (Some one) (Some other) = IsSameTransaction one other

-- The one history is the other with steps in between that lost messages. All that an answer rests on is the same, but
-- for the messages that were lost.
pub record HasLostMore (setup : Setup) (own history : History) : Type 0 where
  pub sent : messages own ≡ messages history
  pub lost : (row : ℕ) → is_lost own row ≡ false → is_lost history row ≡ false
  pub keep : keep_in setup own ≡ keep_in setup history
  pub logs : (partition : ℕ) → log_at setup own partition ≡ log_at setup history partition
  pub sessions : (client : ℕ) → session own client ≡ session history client
  pub clients : clients_known own ≡ clients_known history
  pub begun : (client : ℕ) → tickets own client ≡ tickets history client
  pub replies : taken own ≡ taken history
  pub runs : (client : ℕ) → RunsAlike (running own client) (running history client)
  pub counters : (client : ℕ) → counter own client ≡ counter history client
  pub stamps : decided own ≡ decided history

-- the one history still has the message of which an act is, if the other has it
abbrev pub StillHas : History → History → Act → Type 0
StillHas own history (Deliver row) = message_at own row ≡ message_at history row
StillHas own history (Lose row) = message_at own row ≡ message_at history row
StillHas own history act = Unit {0}

-- the message that an act delivered is not there any more
abbrev pub IsGone : History → Act → Type 0
IsGone own (Deliver row) = message_at own row ≡ None
IsGone own act = Unit {0}

-- whether the act delivers the message of a row
abbrev pub is_delivery : ℕ → Act → Bool
is_delivery row (Deliver r) = r == row
is_delivery row act = false

-- whether one of the acts does
abbrev pub is_delivered : List Act → ℕ → Bool
is_delivered acts row = list_any (is_delivery row) acts

-- of what the acts did not deliver no more was lost
abbrev pub KeepsUndelivered : List Act → History → History → Type 0
KeepsUndelivered acts own history =
    (row : ℕ) → is_delivered acts row ≡ false → is_lost own row ≡ is_lost history row

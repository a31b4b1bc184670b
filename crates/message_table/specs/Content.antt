-- What a table holds of the messages that were sent.
use Rattle.std.specs.Prelude.{◌≡◌, ℕ, ◌-◌, ◌≤◌, ◌||◌, ◌==◌, All, List, length, cond, slice_get, Option, None, refl}
use Rattle.std.specs.Coded.{Coded, code_by, coded×, coded_ℕ}
use Rattle.std.specs.List.{list_any}
use Rattle.std.specs.Ordering.{nat_cmp}
use Rattle.std.specs.FinMap.{FinMap, get, code}
use Rattle.plain_store.specs.declared.message.Message.{Message}
use Rattle.plain_store.specs.contracts.message.Message as message

-- how many messages were sent, those that were not lost by their rows, and for how many more there is room already
pub record TableContent : Type 0 where
  pub sent : ℕ
  pub live : FinMap nat_cmp Message
  pub reserved : ℕ

-- a content is stored as the tuple of its fields
abbrev pub content_code : Coded TableContent
content_code =
    code_by (ℕ × (FinMap nat_cmp Message × ℕ))
    (coded× coded_ℕ (coded× (code coded_ℕ message.the_row.coded) coded_ℕ)) (λ c. (c.sent, (c.live, c.reserved)))
    (λ p. record { sent = p.0; live = p.1.0; reserved = p.1.1 }) (λ _. refl)

-- the message of a row that was sent and not lost; row r is the r-th message
abbrev pub message_in : List Message → List ℕ → ℕ → Option Message
message_in messages lost row = cond ((row == 0) || list_any (λ l. l == row) lost) None (slice_get messages (row - 1))

-- the table of these messages, of which these rows were lost
pub record StandsFor (table : TableContent) (messages : List Message) (lost : List ℕ) : Type 0 where
  pub sent : table.sent ≡ length messages
  pub live : (row : ℕ) → get table.live row ≡ message_in messages lost row
  pub lost_were_sent : All (λ row. row ≤ length messages) lost

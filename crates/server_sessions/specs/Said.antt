-- What a line of a connection is answered, by the store or by the server itself, and how that is spelled.
use Rattle.std.specs.Prelude.{ℕ, Bool, List, Option, Some, None}
use Rattle.std.specs.List.{flat_map}
use Rattle.plain_store.specs.declared.refusal.Refusal.{Refusal}
use Rattle.plain_store.specs.declared.answer.Answer.{Answer}
use Rattle.plain_store.specs.declared.answer.Answer.TheVariants.{Ready, Refused}
use Rattle.line_protocol.specs.AnswerSpelling.{answer_line}
use Rattle.line_protocol.specs.ServeSpelling.{info_line, ready_as_line}
use Rattle.server_sessions.specs.declared.given.OwnAnswer.{OwnAnswer}
use Rattle.server_sessions.specs.declared.given.OwnAnswer.TheVariants as own

-- What a line is answered: as a step of the store is; that a session is open whose client's number was free, with its counter; or
-- which store the server has, and whether its puts are newest.
pub data Said : Type 0 where
  Answers : Answer → Said
  ReadyAs : ℕ → ℕ → Said
  Informs : ℕ → Bool → Said

abbrev pub said_line : Said → List ℕ
said_line (Answers answer) = answer_line answer
said_line (ReadyAs counter client) = ready_as_line counter client
said_line (Informs store newest) = info_line store newest

-- an answer of the server's own stands in place of the store's
abbrev pub said_of : Answer → Option OwnAnswer → Said
said_of answer None = Answers answer
said_of answer (Some (own.ReadyAs counter client)) = ReadyAs counter client
said_of answer (Some (own.Informs store newest)) = Informs store newest

-- what no seat answers: that a line is refused, or which store it is
pub data Aside : Type 0 where
  Declines : Refusal → Aside
  Shows : ℕ → Bool → Aside

abbrev pub aside_line : Aside → List ℕ
aside_line (Declines cause) = answer_line (Refused cause)
aside_line (Shows store newest) = info_line store newest

-- the lines of these, one after the other
abbrev pub asides_text : List Aside → List ℕ
asides_text = flat_map aside_line

-- a session is open: its counter, and its client's number where that was not asked for
abbrev pub said_ready : ℕ → Option ℕ → Said
said_ready counter None = Answers (Ready counter)
said_ready counter (Some client) = ReadyAs counter client

abbrev pub ready_line : ℕ → Option ℕ → List ℕ
ready_line counter told_client = said_line (said_ready counter told_client)

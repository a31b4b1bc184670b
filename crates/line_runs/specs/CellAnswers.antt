-- What a cell answers in a run.
use Rattle.std.specs.Prelude.{◌≡◌, ◌⊎◌, ℕ, List, [], ◌∷◌, ◌++◌}
use Rattle.plain_store.specs.declared.calls.Call.{Call}
use Rattle.plain_store.specs.Words.{Room}
use Rattle.plain_store.specs.Log.{Log}
use Rattle.plain_store.specs.Replies.{reply_after}
use Rattle.line_protocol.specs.Stream.{terminated}
use Rattle.line_protocol.specs.Spelling.{HasLine, line_of, reply_line, refused_text}
use Rattle.prepare_commit.specs.Content.{Content}
use Rattle.prepare_commit.specs.Serving.{StandsFor}

-- a line asks for a call
pub record Asks (line : List ℕ) (call : Call) : Type 0 where
  pub has_line : HasLine call
  pub spelled : line ≡ line_of call

-- the text answers a line that comes after the log, and the log goes on with the call
abbrev pub IsAnswer : Room → Log → List ℕ → List ℕ → Log → Type 0
IsAnswer room log line text next =
    ((call : Call) × Asks line call × (text ≡ reply_line (reply_after room log call))
    × (next ≡ record { call = call; reply = reply_after room log call } ∷ log))
    ⊎ (((call : Call) → Asks line call → ⊥) × (text ≡ terminated (refused_text 40)) × (next ≡ log))

-- the text answers these lines, one after the other
abbrev pub AnswersLines : Room → Log → List (List ℕ) → List ℕ → Type 0
AnswersLines room log [] text = text ≡ []
AnswersLines room log (line ∷ lines) text =
    (first : List ℕ) × (next : Log) × (others : List ℕ) × IsAnswer room log line first next
    × AnswersLines room next lines others × (text ≡ first ++ others)

-- the text answers these lines, whatever the cell stands for
abbrev pub told_by_cell : Content → List (List ℕ) → List ℕ → Type 0
told_by_cell cell lines text = (log : Log) → StandsFor cell log → AnswersLines cell.room log lines text

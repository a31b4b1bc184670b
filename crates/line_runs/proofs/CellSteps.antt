-- How a run of a cell goes on after a line: for `CellService::answer` and `run_cell`.
use Rattle.std.proofs.Common.{◌≡◌, ℕ, List, [], ◌∷◌, ◌++◌, refl, ap, subst, inl, inr}
use Rattle.plain_store.specs.declared.calls.Call.{Call}
use Rattle.plain_store.specs.declared.calls.Reply.{Reply}
use Rattle.plain_store.specs.Words.{Room}
use Rattle.plain_store.specs.Log.{Exchange}
use Rattle.line_protocol.specs.Stream.{terminated}
use Rattle.line_protocol.specs.Spelling.{reply_line, refused_text}
use Rattle.prepare_commit.specs.Content.{Content}
use Rattle.prepare_commit.specs.Serving.{Serves, StandsFor}
use Rattle.line_runs.specs.Served.{answers_of_cell}
use Rattle.line_runs.specs.CellAnswers.{Asks, AnswersLines, told_by_cell}

pub serves_line : (old new : Content) (line : List ℕ) (call : Call) (reply : Reply) → Asks line call → Serves old new call reply
    → (lines : List (List ℕ)) (others : List ℕ) → told_by_cell new lines others → told_by_cell old (line ∷ lines) (reply_line reply ++ others)
serves_line old new line call reply asks serves lines others rest = λ log stands.
    let is = serves.reply log stands in
    let exchange : Reply → Exchange = λ r. record { call = call; reply = r } in (
      reply_line reply,
      exchange reply ∷ log,
      others,
      inl (call, asks, ap reply_line is, ap (λ (r : Reply). exchange r ∷ log) is),
      subst (λ (room : Room). AnswersLines room (exchange reply ∷ log) lines others) serves.room (rest (exchange reply ∷ log) (serves.history log stands)),
      refl,
    )

pub refuses_line : (cell : Content) (line : List ℕ) → ((call : Call) → Asks line call → ⊥)
    → (lines : List (List ℕ)) (others : List ℕ) → told_by_cell cell lines others → told_by_cell cell (line ∷ lines) (terminated (refused_text 40) ++ others)
refuses_line cell line none lines others rest = λ log stands.
    (terminated (refused_text 40), log, others, inr (none, refl, refl), rest log stands, refl)

-- a new cell answers as one that was asked nothing
pub new_cell_answers : (cell : Content) (slots items clients : ℕ) → cell.room ≡ record { slots = slots; items = items; clients = clients } → StandsFor cell []
    → (lines : List (List ℕ)) (text : List ℕ) → told_by_cell cell lines text → answers_of_cell slots items clients lines text
new_cell_answers cell slots items clients is stands lines text h = subst (λ (room : Room). AnswersLines room [] lines text) is (h [] stands)

use Rattle.std.proofs.Common.{◌≡◌, ◌++◌, ◌∙◌, ap, sym, subst, Ok, Err}
use Rattle.bytes.specs.Filled.{Filled}
use Rattle.plain_store.specs.declared.refusal.Refusal.{Refusal}
use Rattle.plain_store.specs.Numbers.{number_of}
use Rattle.line_protocol.specs.Stream.{terminated}
use Rattle.line_protocol.specs.Spelling.{reply_line, refused_text}
use Rattle.prepare_commit.specs.Content.{Content}
use Rattle.line_runs.specs.declared.cell_run.CellService.{CellService}
use Rattle.line_runs.specs.CellAnswers.{told_by_cell}
use Rattle.line_runs.proofs.CellSteps.{serves_line, refuses_line}
use Rattle.line_runs.proofs.cell_run.CellServiceLineService.answer.Goals as goal
use Rattle.line_runs.proofs.cell_run.CellServiceLineService.answer.Goals.{in-Ok, in-Err}

pub returns-clause-ok : goal.returns-clause-ok
returns-clause-ok c =
    let line = c.args.line.now in
    let before = c.args.self.now.cell in
    let after = c.match-read_cell_line.self.cell in
    elim c.match-read_cell_line.branch [
      | in-Ok w ↦
          let written : w.write_reply-written.new.out.items ≡ c.args.out.now.items ++ reply_line w.apply.result = rw (sym w.written-is ∙ c.in-Ok-written.is) at w.write_reply-written.ensures.ok in
          let cell : after ≡ w.apply.new.self = ap (λ (s : CellService). s.cell) w.self-is in (
            reply_line w.apply.result,
            ap (λ (o : Filled). o.items) w.out-is ∙ written,
            λ lines others rest. serves_line before w.apply.new.self line w.in-Ok.call w.apply.result
                (record { has_line = w.in-Ok.ensures.found.0; spelled = w.in-Ok.ensures.found.1 }) w.apply.ensures lines others
                (subst (λ (x : Content). told_by_cell x lines others) cell rest),
          )
      | in-Err w ↦
          let bad = ap (λ (r : Refusal). c.args.out.now.items ++ terminated (refused_text (number_of r))) w.in-Err.ensures.error in
          let written : w.write_refusal-written.new.out.items ≡ c.args.out.now.items ++ terminated (refused_text (number_of w.in-Err.refusal)) = rw (sym w.written-is ∙ c.in-Ok-written.is) at w.write_refusal-written.ensures.ok in
          let cell : after ≡ before = ap (λ (s : CellService). s.cell) w.self-is in (
            terminated (refused_text 40),
            ap (λ (o : Filled). o.items) w.out-is ∙ written ∙ bad,
            λ lines others rest. refuses_line before line
                (λ call asks. let e : Err w.in-Err.refusal ≡ Ok call = sym w.in-Err.is ∙ c.read_cell_line.ensures.only call asks.has_line asks.spelled in absurd cc)
                lines others (subst (λ (x : Content). told_by_cell x lines others) cell rest),
          )
    ]

use Rattle.std.proofs.Common.{refl}
use Rattle.std.proofs.lemmas.Result.{IfErr-weaker}
use Rattle.line_runs.specs.declared.fault.RunFault.TheVariants.{OutOfMemory}
use Rattle.line_runs.specs.CellAnswers.{told_by_cell}
use Rattle.line_runs.specs.Served.{answers_of_cell}
use Rattle.line_runs.proofs.CellSteps.{new_cell_answers}
use Rattle.line_runs.specs.RunAnswers.{FailsSo}
use Rattle.line_runs.proofs.Faults.{at_fault, fails_at_once, fails_so_follows}
use Rattle.line_runs.proofs.cell_run.run_cell.Goals as goal

pub returns-in_err-cell-clause-failed : goal.returns-in_err-cell-clause-failed
returns-in_err-cell-clause-failed g c =
    at_fault c.from_residual.result OutOfMemory
    (FailsSo (answers_of_cell c.args.slots c.args.items c.args.clients) (g.R.Read.remaining c.args.reader.now) (g.R.Read.remaining c.args.reader.now) (g.W.Write.contents c.args.writer.now) (g.W.Write.contents c.args.writer.now))
    c.from_residual.ensures.1
    (fails_at_once (answers_of_cell c.args.slots c.args.items c.args.clients) refl (g.R.Read.remaining c.args.reader.now) (g.W.Write.contents c.args.writer.now))

pub returns-clause-failed : goal.returns-clause-failed
returns-clause-failed g c =
    IfErr-weaker c.run_lines.result _ _
    (fails_so_follows (told_by_cell c.in_ok-cell.cell) (answers_of_cell c.args.slots c.args.items c.args.clients)
    (new_cell_answers c.in_ok-cell.cell c.args.slots c.args.items c.args.clients c.in_ok-cell.ensures.room c.in_ok-cell.ensures.empty)
    (g.R.Read.remaining c.args.reader.now) (g.R.Read.remaining c.run_lines.new.reader) (g.W.Write.contents c.args.writer.now) (g.W.Write.contents c.run_lines.new.writer))
    c.run_lines.ensures.failed

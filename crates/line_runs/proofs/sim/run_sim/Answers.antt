use Rattle.std.proofs.Common.{refl}
use Rattle.std.proofs.lemmas.Result.{IfErr-weaker}
use Rattle.line_runs.specs.declared.fault.RunFault.TheVariants.{OutOfMemory}
use Rattle.line_runs.specs.SimAnswers.{sim_replies}
use Rattle.line_runs.specs.Served.{answers_of_store}
use Rattle.line_runs.proofs.SimSteps.{new_store_answers}
use Rattle.line_runs.specs.RunAnswers.{FailsSo}
use Rattle.line_runs.proofs.Faults.{at_fault, fails_at_once, fails_so_follows}
use Rattle.line_runs.proofs.sim.run_sim.Goals as goal

pub returns-in_err-world-clause-failed : goal.returns-in_err-world-clause-failed
returns-in_err-world-clause-failed g c =
    at_fault c.from_residual.result OutOfMemory
    (FailsSo (answers_of_store c.args.parts c.args.limits.now c.args.names.now) (g.R.Read.remaining c.args.reader.now) (g.R.Read.remaining c.args.reader.now) (g.W.Write.contents c.args.writer.now) (g.W.Write.contents c.args.writer.now))
    c.from_residual.ensures.1
    (fails_at_once (answers_of_store c.args.parts c.args.limits.now c.args.names.now) refl (g.R.Read.remaining c.args.reader.now) (g.W.Write.contents c.args.writer.now))

pub returns-clause-failed : goal.returns-clause-failed
returns-clause-failed g c =
    IfErr-weaker c.run_lines.result _ _
    (fails_so_follows (sim_replies c.in_ok-world.world c.args.names.now) (answers_of_store c.args.parts c.args.limits.now c.args.names.now)
    (new_store_answers c.in_ok-world.world c.args.parts c.args.limits.now c.args.names.now c.in_ok-world.ensures.parts c.in_ok-world.ensures.limits c.in_ok-world.ensures.stands)
    (g.R.Read.remaining c.args.reader.now) (g.R.Read.remaining c.run_lines.new.reader) (g.W.Write.contents c.args.writer.now) (g.W.Write.contents c.run_lines.new.writer))
    c.run_lines.ensures.failed

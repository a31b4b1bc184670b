use Rattle.std.proofs.Common.{◌≡◌}
use Rattle.line_runs.specs.declared.fault.RunFault.TheVariants.{OutOfMemory}
use Rattle.line_runs.specs.RunAnswers.{FailsSo, StopsAt}
use Rattle.line_runs.proofs.Faults.{at_any, at_fault, fails_at_once, stops_at_once}
use Rattle.line_runs.proofs.run.run_lines.Goals as goal

pub returns-in_err-lines-clause-failed : goal.returns-in_err-lines-clause-failed
returns-in_err-lines-clause-failed g c =
    let input = g.R.Read.remaining c.args.reader.now in
    let writer = g.W.Write.contents c.args.writer.now in
    at_fault c.from_residual.result OutOfMemory (FailsSo (g.S.LineService.replies c.args.service.now) input input writer writer) c.from_residual.ensures.1
    (fails_at_once (g.S.LineService.replies c.args.service.now) (g.S.LineService.replies_none c.args.service.now) (g.R.Read.remaining c.args.reader.now) (g.W.Write.contents c.args.writer.now))

pub returns-in_err-lines-clause-memory : goal.returns-in_err-lines-clause-memory
returns-in_err-lines-clause-memory g c =
    let input = g.R.Read.remaining c.args.reader.now in
    let writer = g.W.Write.contents c.args.writer.now in
    let at_once = stops_at_once g.S.LineService.replies c.args.service.now input writer in
    at_any c.from_residual.result (λ fault. fault ≡ OutOfMemory → StopsAt g.S.LineService.replies c.args.service.now c.args.service.now input writer writer) (λ fault same. at_once)

pub returns-in_err-out-clause-failed : goal.returns-in_err-out-clause-failed
returns-in_err-out-clause-failed g c =
    let input = g.R.Read.remaining c.args.reader.now in
    let writer = g.W.Write.contents c.args.writer.now in
    at_fault c.from_residual-in_err-out.result OutOfMemory (FailsSo (g.S.LineService.replies c.args.service.now) input input writer writer) c.from_residual-in_err-out.ensures.1
    (fails_at_once (g.S.LineService.replies c.args.service.now) (g.S.LineService.replies_none c.args.service.now) (g.R.Read.remaining c.args.reader.now) (g.W.Write.contents c.args.writer.now))

pub returns-in_err-out-clause-memory : goal.returns-in_err-out-clause-memory
returns-in_err-out-clause-memory g c =
    let input = g.R.Read.remaining c.args.reader.now in
    let writer = g.W.Write.contents c.args.writer.now in
    let at_once = stops_at_once g.S.LineService.replies c.args.service.now input writer in
    at_any c.from_residual-in_err-out.result (λ fault. fault ≡ OutOfMemory → StopsAt g.S.LineService.replies c.args.service.now c.args.service.now input writer writer) (λ fault same. at_once)

pub returns-in_err-buffer-clause-failed : goal.returns-in_err-buffer-clause-failed
returns-in_err-buffer-clause-failed g c =
    let input = g.R.Read.remaining c.args.reader.now in
    let writer = g.W.Write.contents c.args.writer.now in
    at_fault c.from_residual-in_err-buffer.result OutOfMemory (FailsSo (g.S.LineService.replies c.args.service.now) input input writer writer) c.from_residual-in_err-buffer.ensures.1
    (fails_at_once (g.S.LineService.replies c.args.service.now) (g.S.LineService.replies_none c.args.service.now) (g.R.Read.remaining c.args.reader.now) (g.W.Write.contents c.args.writer.now))

pub returns-in_err-buffer-clause-memory : goal.returns-in_err-buffer-clause-memory
returns-in_err-buffer-clause-memory g c =
    let input = g.R.Read.remaining c.args.reader.now in
    let writer = g.W.Write.contents c.args.writer.now in
    let at_once = stops_at_once g.S.LineService.replies c.args.service.now input writer in
    at_any c.from_residual-in_err-buffer.result (λ fault. fault ≡ OutOfMemory → StopsAt g.S.LineService.replies c.args.service.now c.args.service.now input writer writer) (λ fault same. at_once)

use Rattle.line_protocol.proofs.ServeLaws.{answers_nothing, answers_request, answers_no_memory}
use Rattle.line_protocol.proofs.serve_line.read_serve_line.Goals as goal

pub returns-in-None : goal.returns-in-None
returns-in-None c =
    let a = answers_nothing c.args.line.now c.in-None.ensures in
    record { found = a.found; only = a.only; error = a.error; bad_line = a.bad_line }

pub returns-in-Some-Ok : goal.returns-in-Some-Ok
returns-in-Some-Ok c =
    let a = answers_request c.args.line.now c.in-Some-Ok.request (rw c.in-Some-Ok.field-0-is at c.in-Some-Ok.ensures) in
    record { found = a.found; only = a.only; error = a.error; bad_line = a.bad_line }

pub returns-in-Some-Err : goal.returns-in-Some-Err
returns-in-Some-Err c =
    let asked = rw c.in-Some-Err.field-0-is at c.in-Some-Err.ensures in
    let a = answers_no_memory c.args.line.now asked.0 asked.1 asked.2 in
    record { found = a.found; only = a.only; error = a.error; bad_line = a.bad_line }

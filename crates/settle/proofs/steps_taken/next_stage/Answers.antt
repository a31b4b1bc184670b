use Rattle.std.proofs.Common.{◌<◌, length, arith}
use Rattle.settle.proofs.Stages.{opened, open_differs, waiting_differs}
use Rattle.settle.proofs.steps_taken.next_stage.Goals as goal

pub returns-in-None : goal.returns-in-None
returns-in-None c item compared at = waiting_differs c.args.transcript.now c.args.stage item c.args.answer.now c.in-Waiting.is c.in-None.ensures at

pub returns-in-Some-after_noted : goal.returns-in-Some-after_noted
returns-in-Some-after_noted c item compared at =
    let within : c.in-Open.read < length c.args.transcript.now.entries.items = omega (arith, c.if-read-len.false, c.len.ensures.count) in
    opened c.args.transcript.now c.args.stage c.in-Open.read item c.args.answer.now c.in-Some-after_noted.next c.in-Open.is within c.in-Some-after_noted.ensures compared at

pub returns-in-None-after_noted : goal.returns-in-None-after_noted
returns-in-None-after_noted c item compared at =
    let within : c.in-Open.read < length c.args.transcript.now.entries.items = omega (arith, c.if-read-len.false, c.len.ensures.count) in
    open_differs c.args.transcript.now c.args.stage c.in-Open.read item c.args.answer.now c.in-Open.is within c.in-None-after_noted.ensures compared at

use Rattle.std.proofs.Common.{sym}
use Rattle.settle.proofs.Stages.{does}
use Rattle.settle.proofs.progress.Progress.entry.Goals as goal

pub returns-clause-gives : goal.returns-clause-gives
returns-clause-gives c trace item noted compared next = c.next_of_entry.ensures.gives trace item.doing noted (does c.args.transcript.now.entries.items c.args.read c.in_ok-entry.entry item (sym c.in_ok-entry.ensures) compared next)

use Rattle.std.proofs.Common.{Err}
use Rattle.line_protocol.specs.Held.{EndsAs}
use Rattle.plain_store.specs.declared.refusal.Refusal.TheVariants.{LineTooLong}
use Rattle.line_runs.proofs.Endings.{ends_whole, ends_too_long, ends_cut}
use Rattle.line_runs.proofs.run.end_of.Goals as goal

pub returns-in_default : goal.returns-in_default
returns-in_default c = ends_whole c.args.lines.now tt c.requires c.in_default.ensures

pub returns-in-LineTooLong : goal.returns-in-LineTooLong
returns-in-LineTooLong c =
    let long : EndsAs c.args.lines.now (Err LineTooLong) = rw c.in-LineTooLong.is at c.in-Err.ensures in
    ends_too_long c.args.lines.now long

pub returns-in_default-refusal : goal.returns-in_default-refusal
returns-in_default-refusal c = ends_cut c.args.lines.now c.in-Err.refusal c.in_default-refusal.not-LineTooLong c.in-Err.ensures

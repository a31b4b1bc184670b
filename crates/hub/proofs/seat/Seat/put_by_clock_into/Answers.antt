use Rattle.std.proofs.Common.{None, ap, inl, refl, subst, sym, ◌∙◌}
use Rattle.plain_store.specs.declared.answer.Answer.{Answer}
use Rattle.plain_store.specs.declared.answer.Answer.TheVariants.{Refused}
use Rattle.hub.specs.Fresh.{AreCommittedIn}
use Rattle.hub.specs.Limits.{max_calls}
use Rattle.hub.specs.Replies.{IfDone}
use Rattle.hub.specs.Clocks.{IsStampedBehind, ReportsDone}
use Rattle.hub.proofs.Clocked.{later_raised, put_drawn, put_undrawn, refused_as, write_refused}
use Rattle.hub.proofs.Done.{puts_ran}
use Rattle.hub.proofs.Operations.{later-same}
use Rattle.hub.proofs.Reported.{done_is, put_reported, reports_done, unreported}
use Rattle.hub.proofs.seat.Seat.put_by_clock_into.Goals as goal

pub returns-in-Some-clause-put : goal.returns-in-Some-clause-put
returns-in-Some-clause-put g c =
    let seat = c.args.self.now in
    let is = c.tell_refusal.ensures in
    record {
      between = seat;
      raised = inl refl;
      written = write_refused c.args.items.now seat c.tell_refusal.new.answer c.in-Some.refusal is c.in-Some.ensures.unbegun;
      later = later-same max_calls seat;
      stopped = refused_as c.tell_refusal.new.answer _ c.in-Some.refusal _ is refl c.in-Some.ensures.stopped;
      used_up = λ used. is ∙ (let same = c.in-Some.ensures.past.1 used in ap Refused cc);
      drawn = subst (λ (a : Answer). IfDone a (IsStampedBehind seat.seen seat.seen seat.name)) (sym is) tt;
      committed = subst (λ (a : Answer). IfDone a (AreCommittedIn seat.seen seat.name.tenant c.args.items.now)) (sym is) tt;
    }

pub returns-in-Some-clause-reported : goal.returns-in-Some-clause-reported
returns-in-Some-clause-reported g c = subst (λ (a : Answer). ReportsDone None c.args.items.now c.args.self.now a c.args.self.now) (sym c.tell_refusal.ensures) tt

-- it drew nothing, and is as it was
pub returns-in-Err-clause-put : goal.returns-in-Err-clause-put
returns-in-Err-clause-put g c =
    put_undrawn c.args.items.now c.args.self.now c.draw.new.self c.tell_refusal-in-Err.new.answer c.in-Err.refusal c.in-Err.ensures.unchanged c.tell_refusal-in-Err.ensures c.in-Err.ensures.refused
    c.in_default.ensures.open.0 c.in_default.ensures.open.1

pub returns-in-Err-clause-reported : goal.returns-in-Err-clause-reported
returns-in-Err-clause-reported g c = subst (λ (a : Answer). ReportsDone None c.args.items.now c.args.self.now a c.draw.new.self) (sym c.tell_refusal-in-Err.ensures) tt

pub returns-then-not-is_done-clause-put : goal.returns-then-not-is_done-clause-put
returns-then-not-is_done-clause-put g c =
    let ran = c.run.ensures in
    let put = puts_ran c.args.items.now c.draw.new.self c.run.new.self c.run.new.answer ran.entered ran.stopped ran.past ran.later ran.told.0 ran.told.1 ran.moved ran.legal ran.of_store in
    put_drawn c.args.items.now c.args.self.now c.draw.new.self c.run.new.self c.run.new.answer c.in_default-draw.ensures.raised c.in_default-draw.ensures.drawn put.operated put.stamp put.written put.committed

pub returns-then-not-is_done-clause-reported : goal.returns-then-not-is_done-clause-reported
returns-then-not-is_done-clause-reported g c = unreported c.run.new.answer _ _ (sym c.is_done.ensures ∙ c.if-not-is_done.true) c.run.ensures.told.0

-- it is done, and reported
pub returns-clause-put : goal.returns-clause-put
returns-clause-put g c =
    let mid = c.run.new.self in
    let answer = c.run.new.answer in
    let ran = c.run.ensures in
    let put = puts_ran c.args.items.now c.draw.new.self c.run.new.self c.run.new.answer ran.entered ran.stopped ran.past ran.later ran.told.0 ran.told.1 ran.moved ran.legal ran.of_store in
    let done = done_is answer (sym c.is_done.ensures ∙ c.if-not-is_done.false) in
    put_reported c.args.items.now c.args.self.now mid c.report.new.self answer done.0 done.1 c.report.ensures.legal c.report.ensures.more
    (put_drawn c.args.items.now c.args.self.now c.draw.new.self mid answer c.in_default-draw.ensures.raised c.in_default-draw.ensures.drawn put.operated put.stamp put.written put.committed)

pub returns-clause-reported : goal.returns-clause-reported
returns-clause-reported g c =
    let old = c.args.self.now in
    let drawn = c.draw.new.self in
    let mid = c.run.new.self in
    let answer = c.run.new.answer in
    let ran = c.run.ensures in
    let put = puts_ran c.args.items.now c.draw.new.self c.run.new.self c.run.new.answer ran.entered ran.stopped ran.past ran.later ran.told.0 ran.told.1 ran.moved ran.legal ran.of_store in
    let done = done_is answer (sym c.is_done.ensures ∙ c.if-not-is_done.false) in
    let later = later_raised old drawn mid c.in_default-draw.ensures.raised ran.later in
    reports_done c.report.result c.args.items.now old mid c.report.new.self answer done.0 done.1 put.committed (ap (λ n. n.tenant) later.name) later.seen c.report.ensures.more c.report.ensures.reported

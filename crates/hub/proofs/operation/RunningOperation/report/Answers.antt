use Rattle.std.proofs.Common.{List, subst}
use Rattle.std.specs.Prelude.{IfNone}
use Rattle.history.specs.declared.entry.HistoryEntry.{HistoryEntry}
use Rattle.history.specs.Clock.{IsOverrun}
use Rattle.hub.proofs.Reported.{reported_by}
use Rattle.hub.proofs.operation.RunningOperation.report.Goals as goal

pub returns-clause-reported : goal.returns-clause-reported
returns-clause-reported g c =
    let self = c.args.self.now in
    let P : List HistoryEntry → Type 0 = λ l. IfNone c.tell-place.result (IsOverrun self.clock.now.key l c.tell-place.new.self) in
    reported_by c.tell-place.result self.clock.now.key self.name.tenant self.seen c.tell-place.new.self c.learn.new.self.seen self.clocked.0 c.learn.ensures.learned c.tell-place.ensures.told
    (subst P c.again-front.ensures.same c.tell-place.ensures.overrun)

use Rattle.std.proofs.Common.{ℕ, ◌<◌, ◌++◌, ◌∙◌, ap, subst}
use Rattle.std.specs.Prelude.{IfSome}
use Rattle.entry_list.specs.SeatEntries.{SeatEntriesView}
use Rattle.entry_list.specs.Raises.{raise_entries}
use Rattle.hub.proofs.Clocked.{drawn_below, raised, raised_to}
use Rattle.hub.proofs.operation.RunningOperation.draw.Goals as goal

-- the session's counter is one below what was drawn
pub returns-clause-drawn : goal.returns-clause-drawn
returns-clause-drawn g c =
    let self = c.args.self.now in
    let session = self.session in
    drawn_below self.seen c.draw_next-drawn.new.self c.learn.new.self.seen self.name.tenant session.counter c.in-Some.base c.reopen.new.self.counter c.draw_next-drawn.result c.in-Some.ensures
    c.draw_next-drawn.ensures.drawn (subst (λ (n : ℕ). IfSome c.draw_next-drawn.result (λ counter. n < counter)) (c.get-floor.ensures.value ∙ c.counter.ensures) c.draw_next-drawn.ensures.floor) c.learn.ensures.learned
    (raised session c.learn.new.self.session c.stop.new.self c.reopen.new.self c.in-Some.base c.learn.ensures.more.session self.opened c.stop.ensures.after c.reopen.ensures.after)

-- and that is entered
pub returns-clause-entered : goal.returns-clause-entered
returns-clause-entered g c =
    let self = c.args.self.now in
    let session = self.session in
    ap (λ (v : SeatEntriesView). v.items) c.learn.ensures.more.entries ∙ c.in-Ok.ensures.ok.0
    ∙ ap (λ (n : ℕ). self.entries.items ++ raise_entries self.name.client n)
    (raised_to session.counter c.in-Some.base c.reopen.new.self.counter c.draw_next-drawn.result c.in-Some.ensures
    (subst (λ (n : ℕ). IfSome c.draw_next-drawn.result (λ counter. n < counter)) (c.get-floor.ensures.value ∙ c.counter.ensures) c.draw_next-drawn.ensures.floor)
    (raised session c.learn.new.self.session c.stop.new.self c.reopen.new.self c.in-Some.base c.learn.ensures.more.session self.opened c.stop.ensures.after c.reopen.ensures.after))

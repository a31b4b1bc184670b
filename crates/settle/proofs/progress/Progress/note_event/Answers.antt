use Rattle.std.proofs.Common.{sym, ap, ◌∙◌}
use Rattle.std.proofs.lemmas.Bool.{both_ways}
use Rattle.settle.specs.Trace.{OfJournal, row_replied, ready, acts_before}
use Rattle.settle.specs.Standing.{reply_told}
use Rattle.settle.proofs.Words.{match_pushed}
use Rattle.settle.proofs.Journals.{brought_act, journal_agrees, journal_agreed, journal_noted}
use Rattle.settle.proofs.progress.Progress.note_event.Goals as goal

pub returns-then-not-brings-clause-notes : goal.returns-then-not-brings-clause-notes
returns-then-not-brings-clause-notes c input trace noted may next agrees =
    let has = c.may_have_lost.ensures.has input (acts_before input trace (OfJournal c.args.partition)) (ready input trace (OfJournal c.args.partition)) noted.replays c.if-may_have_lost.false in
    let valid = brought_act input trace c.args.partition may.0 c.args.step.now.act may.2 in
    let both = journal_agreed input trace c.args.partition c.args.step.now.act c.args.event.now next valid agrees in
    both_ways c.brings.result c.if-not-brings.true ((c.brings.ensures input (acts_before input trace (OfJournal c.args.partition)) (ready input trace (OfJournal c.args.partition)) noted.replays has).1 both.0)

pub returns-in_default-clause-notes : goal.returns-in_default-clause-notes
returns-in_default-clause-notes c input trace noted may next agrees =
    let has = c.may_have_lost.ensures.has input (acts_before input trace (OfJournal c.args.partition)) (ready input trace (OfJournal c.args.partition)) noted.replays c.if-may_have_lost.false in
    let valid = brought_act input trace c.args.partition may.0 c.args.step.now.act may.2 in
    let both = journal_agreed input trace c.args.partition c.args.step.now.act c.args.event.now next valid agrees in
    c.in_default.ensures (ap reply_told (c.in_ok-step_into.ensures.answer input (acts_before input trace (OfJournal c.args.partition)) (ready input trace (OfJournal c.args.partition)) noted.replays has) ∙ both.1)

pub returns-clause-notes : goal.returns-clause-notes
returns-clause-notes c input trace noted may next =
    let has = c.may_have_lost.ensures.has input (acts_before input trace (OfJournal c.args.partition)) (ready input trace (OfJournal c.args.partition)) noted.replays c.if-may_have_lost.false in
    let valid = brought_act input trace c.args.partition may.0 c.args.step.now.act may.2 in
    let is = c.in_ok-step_into.ensures.answer input (acts_before input trace (OfJournal c.args.partition)) (ready input trace (OfJournal c.args.partition)) noted.replays has in
    let brought = (c.brings.ensures input (acts_before input trace (OfJournal c.args.partition)) (ready input trace (OfJournal c.args.partition)) noted.replays has).0 c.if-not-brings.false in
    match_pushed input trace (OfJournal c.args.partition) c.args.step.now.act c.args.self.now.replay.loses c.push_at.result _ _ c.push_at.ensures.pushed.ok c.push_at.ensures.pushed.err
    (λ pushed. (
      journal_noted input trace c.args.partition c.args.step.now.act c.args.self.now c.step_into.new.self c.push_at.new.lists c.in-Some.row noted (c.in_ok-step_into.ensures.stands input (acts_before input trace (OfJournal c.args.partition)) (ready input trace (OfJournal c.args.partition)) noted.replays has).plays
          (c.in-Some.ensures.1 ∙ ap row_replied is) pushed,
      journal_agrees input trace c.args.partition c.args.step.now.act c.args.event.now next valid brought (ap reply_told (sym is) ∙ c.in-Some.ensures.0),
    ))

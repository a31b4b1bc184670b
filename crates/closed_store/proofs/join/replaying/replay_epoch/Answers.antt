use Rattle.std.proofs.Common.{◌∙◌, sym, subst}
use Rattle.prepare_commit.specs.Bases.{empty_base}
use Rattle.partition.specs.Journals.{IsEnd, room_for}
use Rattle.closed_store.proofs.Replayed.{same_end, cut_begins, next_amid}
use Rattle.closed_store.proofs.join.replaying.replay_epoch.Goals as goal

pub returns-then-not-branch-clause-differs : goal.returns-then-not-branch-clause-differs
returns-then-not-branch-clause-differs c limits before amid replies begins =
    let differs = c.in_ok-serve_all.ensures.differs in
    sym c.if-not-branch.true ∙ differs limits before amid replies

pub returns-clause-replayed : goal.returns-clause-replayed
returns-clause-replayed c test limits before amid =
    let got = c.in_ok-serve_all.ensures.replayed c.if-not-branch.false in
    let both = got limits before amid in
    let events = c.args.epoch.now.events.items in
    let begins = cut_begins limits before events c.serve_all.new.book c.cut.new.self c.in-Ok.begun both.1 c.in-Ok.ensures.cut in (
      both.0,
      subst (IsEnd (empty_base (room_for limits)) before) (c.is_base-same.ensures.same.0 test) begins,
      next_amid limits before events c.serve_all.new.book c.cut.new.self c.in-Ok.begun both.1 c.in-Ok.ensures.cut,
    )

pub returns-clause-differs : goal.returns-clause-differs
returns-clause-differs c limits before amid replies ends =
    let got = c.in_ok-serve_all.ensures.replayed c.if-not-branch.false in
    let both = got limits before amid in
    let events = c.args.epoch.now.events.items in
    let begins = cut_begins limits before events c.serve_all.new.book c.cut.new.self c.in-Ok.begun both.1 c.in-Ok.ensures.cut in
    c.is_base-same.ensures.same.1 (same_end (room_for limits) before c.in-Ok.begun.base c.args.epoch.now.base c.is_base-same.ensures.bases.0 c.is_base-same.ensures.bases.1 begins ends)

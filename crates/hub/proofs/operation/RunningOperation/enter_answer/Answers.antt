use Rattle.std.proofs.Common.{refl}
use Rattle.hub.proofs.Entries.{follows-answered}
use Rattle.hub.proofs.Taking.{replies-other}
use Rattle.hub.proofs.operation.RunningOperation.enter_answer.Goals as goal

pub returns-then-is_some-clause-entered : goal.returns-then-is_some-clause-entered
returns-then-is_some-clause-entered g c start follows =
    rw c.push_answered.ensures.items (follows-answered start c.args.self.now.entries.items _ c.args.answer.now refl refl follows)

pub returns-then-is_some-clause-replies : goal.returns-then-is_some-clause-replies
returns-then-is_some-clause-replies g c = replies-other c.args.self.now.entries.items c.push_answered.new.self.items _ refl c.push_answered.ensures.items

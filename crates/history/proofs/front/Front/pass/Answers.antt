use Rattle.history.proofs.Clock.{overtaken_by, told_if}
use Rattle.history.proofs.front.Front.pass.Goals as goal

pub add-requires-clause-may : goal.add-requires-clause-may
add-requires-clause-may g c = ∣ tt ∣₁

pub returns-clause-told : goal.returns-clause-told
returns-clause-told g c did =
    told_if c.args.clock.now.key c.args.tenant.now c.args.entries c.args.evidence.now c.args.self.now c.add.new.self c.add.result did c.requires.clock.0 c.add.ensures.adds.added c.add.ensures.sees.behind

-- the clock has others
pub returns-clause-overtaken : goal.returns-clause-overtaken
returns-clause-overtaken g c not =
    overtaken_by c.args.clock.now.key c.args.entries _ c.args.self.now c.add.new.self c.add.result not c.requires.takes.counted c.add.ensures.adds.later c.add.ensures.adds.added

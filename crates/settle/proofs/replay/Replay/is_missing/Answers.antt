use Rattle.settle.specs.Input.{setup_for}
use Rattle.settle.proofs.Losing.{all_there, found_there}
use Rattle.settle.proofs.replay.Replay.is_missing.Goals as goal

pub returns-then-not-self-clause-has : goal.returns-then-not-self-clause-has
returns-then-not-self-clause-has c input acts history plays is = all_there (setup_for input) plays.own history plays.more (plays.all c.if-not-self.true) c.args.row

pub returns-clause-has : goal.returns-clause-has
returns-clause-has c input acts history plays is = found_there (setup_for input) plays.own history plays.more c.args.row c.message.result c.is_none.result (c.message.ensures input acts history plays) c.is_none.ensures is

use Rattle.std.specs.Prelude.{Ok, Err}
use Rattle.secondary_index.proofs.Setting.{searched_is_known}
use Rattle.secondary_index.proofs.tag_index.TagIndex.look_up.Goals as goal

pub returns-in-Ok-clause-known : goal.returns-in-Ok-clause-known
returns-in-Ok-clause-known c =
    searched_is_known c.args.self.now c.self.inside.room c.self.inside.entries.items c.self.invariant.0.in_order c.self.view_is c.args.key.now (Ok c.in-Ok.place) c.in-Ok.ensures

pub returns-in-Err-clause-known : goal.returns-in-Err-clause-known
returns-in-Err-clause-known c =
    searched_is_known c.args.self.now c.self.inside.room c.self.inside.entries.items c.self.invariant.0.in_order c.self.view_is c.args.key.now (Err c.in-Err.place) c.in-Err.ensures

use Rattle.std.specs.Prelude.{Ok, Err}
use Rattle.secondary_index.proofs.Setting.{searched_is_known}
use Rattle.secondary_index.proofs.tag_index.TagIndex.is_known_numbered.Goals as goal

pub returns-then-stands_at-clause-known : goal.returns-then-stands_at-clause-known
returns-then-stands_at-clause-known c =
    searched_is_known c.args.self.now c.self.inside.room c.self.inside.entries.items c.self.invariant.0.in_order c.self.view_is c.args.key.now (Ok c.place_of-place.result) (c.stands_at.ensures c.if-stands_at.true)

pub returns-then-belongs_at-clause-known : goal.returns-then-belongs_at-clause-known
returns-then-belongs_at-clause-known c =
    searched_is_known c.args.self.now c.self.inside.room c.self.inside.entries.items c.self.invariant.0.in_order c.self.view_is c.args.key.now (Err c.place_of-place.result) (c.belongs_at.ensures c.if-belongs_at.true)

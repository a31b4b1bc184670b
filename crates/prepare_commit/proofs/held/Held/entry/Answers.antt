use Rattle.std.proofs.Common.{get_or}
use Rattle.prepare_commit.specs.Begun.{none_held}
use Rattle.prepare_commit.proofs.Places.{place_there}
use Rattle.prepare_commit.proofs.held.Held.entry.Goals as goal

pub entry-requires : goal.entry-requires
entry-requires c =
    let h = c.self.inside in
    (get_or c.args.self.now c.args.nth none_held, place_there h.parts h.places.items _ c.args.self.now c.self.invariant c.self.view_is c.args.nth _ c.index.result.now c.index.ensures c.requires)

pub returns : goal.returns
returns c =
    let h = c.self.inside in
    c.entry.ensures (get_or c.args.self.now c.args.nth none_held) (place_there h.parts h.places.items _ c.args.self.now c.self.invariant c.self.view_is c.args.nth _ c.index.result.now c.index.ensures c.requires)

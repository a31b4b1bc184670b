use Rattle.std.proofs.Common.{get_or, ap, ◌∙◌, arith}
use Rattle.version_arena.specs.Cells.{next_of}
use Rattle.version_arena.proofs.LiveCells.{live_cell}
use Rattle.version_arena.proofs.arena.Arena.next.Goals as goal

pub index-requires-2 : goal.index-requires-2
index-requires-2 g c =
    let cell = live_cell c.self.inside.values c.self.inside.states.items c.self.inside.live c.self.inside.free c.args.slot c.self.invariant.0 (rw (← c.self.view_is) at c.requires) in
    omega (arith, c.self.inside.states.ok.0, cell.used, c.index.ensures)

pub returns : goal.returns
returns g c =
    let cell = live_cell c.self.inside.values c.self.inside.states.items c.self.inside.live c.self.inside.free c.args.slot c.self.invariant.0 (rw (← c.self.view_is) at c.requires) in
    let read = c.index-2.ensures ∙ ap (λ i. get_or c.self.inside.states.items i c.index-2.result.now) c.index.ensures ∙ cell.state_is c.index-2.result.now in
    rw (← c.self.view_is, cell.entry) (c.next.ensures ∙ ap next_of read)

use Rattle.std.proofs.Common.{◌≡◌, Some, None, get_or, sym, ap, ◌∙◌}
use Rattle.version_arena.proofs.LiveCells.{live_cell}
use Rattle.version_arena.proofs.arena.Arena.get.Goals as goal

pub get-requires : goal.get-requires
get-requires g c =
    let cell = live_cell c.self.inside.values c.self.inside.states.items c.self.inside.live c.self.inside.free c.args.slot c.self.invariant.0 (rw (← c.self.view_is) at c.requires) in
    rw c.index.ensures (cell.value, cell.held)

pub returns : goal.returns
returns g c =
    let cell = live_cell c.self.inside.values c.self.inside.states.items c.self.inside.live c.self.inside.free c.args.slot c.self.invariant.0 (rw (← c.self.view_is) at c.requires) in
    let is : get_or c.self.inside.values c.args.slot None ≡ Some c.get.result.now = ap (λ i. get_or c.self.inside.values i None) (sym c.index.ensures) ∙ c.get.ensures in
    let held = cell.held in
    let same : cell.value ≡ c.get.result.now = cc in
    rw (← c.self.view_is, cell.entry) (λ i. Some (same i, cell.next))

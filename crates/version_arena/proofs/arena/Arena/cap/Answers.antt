use Rattle.std.proofs.Common.{length, sym, ap, ◌∙◌, arith}
use Rattle.std.proofs.lemmas.List.{length-map}
use Rattle.version_arena.specs.Cells.{held_in, places}
use Rattle.version_arena.proofs.Places.{length-places}
use Rattle.version_arena.proofs.arena.Arena.cap.Goals as goal

pub overflow_cast-result : goal.overflow_cast-result
overflow_cast-result g c = omega (arith, c.self.invariant.0.small, length-places c.self.inside.values c.self.inside.states.items, c.len.ensures)

pub returns : goal.returns
returns g c =
    c.len.ensures ∙ sym (length-places c.self.inside.values c.self.inside.states.items) ∙ sym (length-map (places c.self.inside.values c.self.inside.states.items) held_in)
    ∙ ap length c.self.view_is

use Rattle.std.proofs.Common.{◌≡◌, ◌<◌, Bool, true, false, true≢false, length, get_or, refl, sym, ap, ◌∙◌, arith}
use Rattle.version_arena.specs.Cells.{is_live}
use Rattle.version_arena.proofs.LiveCells.{live_cell, live_if, not_live_if}
use Rattle.version_arena.proofs.arena.Arena.is_live.Goals as goal

true_unless : (b : Bool) → (b ≡ false → ⊥) → b ≡ true
true_unless true not = refl
true_unless false not = absurd (not refl)

pub returns-in-Some : goal.returns-in-Some
returns-in-Some g c =
    let states = c.self.inside.states.items in
    let slot = c.args.slot in
    let here = c.in-Some.state.now in
    let lookup = c.in-Some.ensures.lookup in
    let read = lookup.1 ∙ ap (λ l. get_or l c.index.result here) c.deref.ensures.value ∙ ap (λ i. get_or states i here) c.index.ensures in
    let used : slot < length states = omega (arith, lookup.3.0, ap length c.deref.ensures.value, c.index.ensures) in
    let says : c.is_live.result ≡ is_live (get_or states slot here) = c.is_live.ensures ∙ ap is_live read in (
      λ yes. rw (← c.self.view_is) (live_if c.self.inside.values states c.self.inside.live c.self.inside.free slot here c.self.invariant.0 used (sym says ∙ yes)),
      λ live. true_unless c.is_live.result
          (λ no. not_live_if c.self.inside.values states c.self.inside.live c.self.inside.free slot here c.self.invariant.0 (sym says ∙ no) (rw (← c.self.view_is) at live)),
    )

pub returns-in-None : goal.returns-in-None
returns-in-None g c = (
  λ no. absurd (true≢false (sym no)),
  λ live. absurd
      (let cell = live_cell c.self.inside.values c.self.inside.states.items c.self.inside.live c.self.inside.free c.args.slot c.self.invariant.0 (rw (← c.self.view_is) at live) in
      omega (arith, cell.used, c.in-None.ensures.lookup.3, ap length c.deref.ensures.value, c.index.ensures)),
)

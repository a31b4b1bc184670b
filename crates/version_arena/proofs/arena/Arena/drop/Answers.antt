use Rattle.std.proofs.Common.{◌<◌, inl, inr, None, length, get_or, set, refl, sym, ap, ◌∙◌, arith, length-set}
use Rattle.std.proofs.lemmas.List.{get_or-set_same, get_or-set_other}
use Rattle.version_arena.specs.Cells.{is_live}
use Rattle.version_arena.proofs.Emptying.{lt_or_same, lower_or_not, all_empty}
use Rattle.version_arena.proofs.LiveCells.{live_cell, live_if, empty_if}
use Rattle.version_arena.proofs.Places.{empty_at, length-places}
use Rattle.version_arena.proofs.arena.Arena.drop.Goals as goal
use Rattle.version_arena.proofs.arena.Arena.drop.Goals.{then-is_live, else-is_live}

pub loop-index-init : goal.loop-index-init
loop-index-init g c = record { emptied = λ k below. absurd (omega (arith, below)); rest = λ k above. refl; long = refl }

pub take-requires : goal.take-requires
take-requires g c =
    let states = c.self.inside.states.items in
    let index = c.loop-index.index in
    let here = c.index.result.now in
    let says = sym (c.is_live.ensures ∙ ap is_live c.index.ensures) ∙ c.if-is_live.true in
    let used : index < length states = omega (arith, c.self.inside.states.ok.0) in
    let some = live_if c.self.inside.values states c.self.inside.live c.self.inside.free index here c.self.invariant.0 used says in
    let cell = live_cell c.self.inside.values states c.self.inside.live c.self.inside.free index c.self.invariant.0 some in
    (cell.value, c.loop-index.invariant.rest index (omega arith) ∙ cell.held)

pub loop-index-preserved : goal.loop-index-preserved
loop-index-preserved g c =
    let states = c.self.inside.states.items in
    let index = c.loop-index.index in
    let before = c.loop-index.values in
    let inv = c.loop-index.invariant in
    let used : index < length states = omega (arith, c.self.inside.states.ok.0) in
    let within : index < length before = omega (arith, used, inv.long, c.self.invariant.0.within, length-places c.self.inside.values states) in
    elim c.if-is_live.branch [
      | then-is_live w ↦
          let after = w.values-is ∙ w.take.ensures.emptied in record {
            emptied = λ k below. ap (λ l. get_or l k None) after ∙ (elim (lt_or_same k index below) [
              | inl lower ↦ get_or-set_other before index k None None (λ same. absurd (omega (arith, same, lower))) ∙ inv.emptied k lower
              | inr same ↦ ap (λ i. get_or (set before index None) i None) same ∙ get_or-set_same before index None None within
            ]);
            rest = λ k above. ap (λ l. get_or l k None) after ∙ get_or-set_other before index k None None (λ same. absurd (omega (arith, same, above))) ∙ inv.rest k (omega (arith, above));
            long = ap length after ∙ length-set before index None ∙ inv.long;
          }
      | else-is_live w ↦
          let none = inv.rest index (omega arith) ∙ empty_if c.self.inside.values states c.self.inside.live c.self.inside.free index c.index.result.now c.self.invariant.0 used (sym (c.is_live.ensures ∙ ap is_live c.index.ensures) ∙ w.if-is_live.false) in record {
            emptied = λ k below. ap (λ l. get_or l k None) w.values-is ∙ (elim (lt_or_same k index below) [
              | inl lower ↦ inv.emptied k lower
              | inr same ↦ ap (λ i. get_or before i None) same ∙ none
            ]);
            rest = λ k above. ap (λ l. get_or l k None) w.values-is ∙ inv.rest k (omega (arith, above));
            long = ap length w.values-is ∙ inv.long;
          }
    ]

pub free-requires : goal.free-requires
free-requires g c =
    let states = c.self.inside.states.items in
    let inv = c.loop-index.invariant in
    all_empty c.loop-index.values (λ k below. elim (lower_or_not k c.loop-index.index) [
      | inl lower ↦ inv.emptied k lower
      | inr above ↦ inv.rest k above ∙ empty_at c.self.inside.values states k (omega (arith, above, c.self.inside.states.ok.0)) (c.self.invariant.0.empty k (omega (arith, above, c.self.inside.states.ok.0)))
    ])

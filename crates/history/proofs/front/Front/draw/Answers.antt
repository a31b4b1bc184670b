use Rattle.std.proofs.Common.{◌≡◌, ℕ, ◌+◌, subst, sym, ap, ◌∙◌}
use Rattle.history.specs.Entries.{count}
use Rattle.history.proofs.Clock.{drawn_if}
use Rattle.history.proofs.front.Front.draw.Goals as goal

pub add-requires-clause-may : goal.add-requires-clause-may
add-requires-clause-may g c =
    let P : ℕ → Type 0 = λ n. c.args.drawn.now.counter ≡ n + 1 in
    ∣ subst P (sym c.requires.takes.counted ∙ ap (λ (k : ℕ). count k c.args.self.now) c.requires.clock.0) c.requires.counter ∣₁

pub returns-clause-drawn : goal.returns-clause-drawn
returns-clause-drawn g c did =
    drawn_if c.args.clock.now.key c.args.entries c.args.evidence.now c.args.self.now c.add.new.self c.args.drawn.now c.add.result did c.add.ensures.adds.added c.add.ensures.sees.behind

use Rattle.std.proofs.Common.{◌≡◌, true, false, sym, ◌∙◌}
use Rattle.version_chain.proofs.chains.Chains.sweep_at.Goals as goal

pub returns-then-not-has_unheld-clause-run : goal.returns-then-not-has_unheld-clause-run
returns-then-not-has_unheld-clause-run c =
    record { list = c.requires; swept = c.has_unheld.ensures.0 c.if-not-has_unheld.true; run = c.places_at-first.ensures }

pub returns-clause-unswept : goal.returns-clause-unswept
returns-clause-unswept c swept = absurd (let g : true ≡ false = sym c.if-not-has_unheld.false ∙ c.has_unheld.ensures.1 swept in cc)

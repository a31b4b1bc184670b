use Rattle.std.proofs.Common.{◌≡◌, ◌-◌, ◌<◌, ap, arith, get_or, inl, inr, length}
use Rattle.std.proofs.lemmas.Bool.{cases_lt}
use Rattle.std.proofs.lemmas.Grind.{get_or_default_zero}
use Rattle.tenant_sessions.proofs.waiting.are_ascending.Goals as goal

pub loop-at-preserved : goal.loop-at-preserved
loop-at-preserved c = λ i j d low high.
    let xs = c.args.partitions.now in
    let at = c.loop-at.at in
    let within : at < length xs = c.loop-at-test.true in
    let left = get_or_default_zero xs (at - 1) d (omega (arith, within)) in
    let right = get_or_default_zero xs at d within in
    let step : get_or xs (at - 1) d < get_or xs at d = omega (arith, c.if-partitions-at.false, left, right) in
    elim (cases_lt j at) [
      | inl before ↦ c.loop-at.invariant i j d low before
      | inr past ↦
          let last : j ≡ at = omega (arith, past, high) in
          let there = ap (λ k. get_or xs k d) last in
          elim (cases_lt i (at - 1)) [
            | inl below ↦ omega (arith, c.loop-at.invariant i (at - 1) d below (omega (arith, c.loop-at.auto.at)), step, there)
            | inr above ↦
                let here : i ≡ at - 1 = omega (arith, above, low, last, c.loop-at.auto.at) in
                omega (arith, ap (λ k. get_or xs k d) here, step, there)
          ]
    ]

pub returns : goal.returns
returns c = λ _ i j d low within. c.loop-at.invariant i j d low (omega (arith, within, c.loop-at-test.false))

use Rattle.std.proofs.Common.{◌≡◌, ◌+◌, ◌<◌, ◌≤◌, List, [], ◌∷◌, ◌++◌, length, take, drop, ap, sym, ◌∙◌, length-append, arith}
use Rattle.std.proofs.lemmas.List.{take_all, take_more, drop_all, drop-drop, append-nil, length-take, length-take-le}
use Rattle.plain_store.specs.declared.reading.Reading.{Reading}
use Rattle.plain_store.proofs.Filling.{next_written}
use Rattle.plain_store.proofs.readings.Readings.set.Goals as goal

pub put-requires-clause-place : goal.put-requires-clause-place
put-requires-clause-place c =
    let readings = c.args.readings.now in
    let at = c.loop-at.at in
    let long : length (take at readings) ≡ at = length-take-le at readings (omega (arith, c.loop-at-test.true)) in
    omega (arith, ap (λ (rs : List Reading). length rs) c.loop-at.invariant, length-append (take at readings) (drop at (take (length readings) c.args.self.now)), long)

pub loop-at-preserved : goal.loop-at-preserved
loop-at-preserved c =
    let readings = c.args.readings.now in
    let at = c.loop-at.at in
    let x = c.index-readings-at.result in
    let old = take (length readings) c.args.self.now in
    let within : at < length readings = omega (arith, c.loop-at-test.true) in
    let long : length (take at readings) ≡ at = length-take-le at readings (omega (arith, within)) in
    let more : take at readings ++ x ∷ [] ≡ take (at + 1) readings =
    sym (take_more readings at x within ∙ ap (λ (r : Reading). take at readings ++ r ∷ []) (sym c.index-readings-at.is)) in
    c.put.ensures ∙ ap (λ (rs : List Reading). take at rs ++ x ∷ drop (at + 1) rs) c.loop-at.invariant ∙ next_written at (take at readings) (drop at old) x long
    ∙ (λ i. more i ++ drop-drop 1 at old i)

pub returns : goal.returns
returns c =
    let readings = c.args.readings.now in
    let at = c.loop-at.at in
    let old = take (length readings) c.args.self.now in
    let past : length readings ≤ at = omega (arith, c.loop-at-test.false) in
    let none : drop at old ≡ [] = drop_all at old (omega (arith, past, length-take (length readings) c.args.self.now)) in
    c.loop-at.invariant ∙ (λ i. take_all at readings past i ++ none i) ∙ append-nil readings

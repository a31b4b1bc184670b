use Rattle.std.proofs.Common.{◌≡◌, ℕ, ◌+◌, ◌-◌, ◌<◌, ◌≤◌, List, ◌++◌, length, set, take, drop, replicate, ap, sym, ◌∙◌, length-append, arith}
use Rattle.std.proofs.lemmas.List.{take-set-le, drop-set-add, drop-drop, length-drop, length-replicate, replicate-append-replicate}
use Rattle.plain_store.specs.declared.reading.Reading.{Reading}
use Rattle.plain_store.specs.ReadingList.{unused}
use Rattle.plain_store.proofs.Filling.{written_over, next_written}
use Rattle.plain_store.proofs.readings.blank.Goals as goal

pub loop-at-preserved : goal.loop-at-preserved
loop-at-preserved c =
    let rs = c.loop-at.readings in
    let old = c.args.readings.now in
    let from = c.args.from in
    let at = c.loop-at.at in
    let i : ℕ = at - from in
    let below : from ≤ at = omega arith in
    let there : from + i ≡ at = omega arith in
    let next : i + 1 ≡ (at + 1) - from = omega arith in
    let done = replicate i unused in
    let rest = drop at old in
    let long : length done ≡ i = length-replicate i unused in
    let within : i < length (done ++ rest) = omega (arith, length-append done rest, long, length-drop at old, c.loop-at-test.true, c.requires.within) in
    record {
      kept = ap (λ (x : Reading). take from (set rs at x)) c.unused.ensures ∙ take-set-le from rs at unused below ∙ c.loop-at.invariant.kept;
      blank =
          ap (λ (x : Reading). drop from (set rs at x)) c.unused.ensures
          ∙ ap (λ (k : ℕ). drop from (set rs k unused)) (sym there) ∙ drop-set-add from rs i unused
          ∙ ap (λ (xs : List Reading). set xs i unused) c.loop-at.invariant.blank
          ∙ written_over i (done ++ rest) unused within ∙ next_written i done rest unused long
          ∙ (λ j. (replicate-append-replicate i 1 unused ∙ ap (λ n. replicate n unused) next) j ++ drop-drop 1 at old j);
    }

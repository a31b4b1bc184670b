use Rattle.std.proofs.Common.{◌≡◌, ◌+◌, ◌<◌, ◌≤◌, false, get_or, length, refl, sym, ◌∙◌, arith}
use Rattle.std.proofs.lemmas.Bool.{both_ways}
use Rattle.std.proofs.lemmas.List.{get_or_default, length-set}
use Rattle.std.proofs.lemmas.List.Sums.{sum_by-set}
use Rattle.prepare_commit.specs.Begun.{no_place}
use Rattle.prepare_commit.proofs.Keeping.{count_none, count_one, kept_within}
use Rattle.prepare_commit.proofs.retire.count_kept.Goals as goal
use Rattle.prepare_commit.proofs.retire.count_kept.Goals.{then-not-has+then-part-len, else-not-has, else-not-has-via-then-not-has+else-part-len, else-not-has-via-else-not-has}

pub loop-chain-preserved : goal.loop-chain-preserved
loop-chain-preserved c =
    let was = c.loop-chain.invariant in
    let counts = c.loop-chain.counts.items in
    let chain = c.loop-chain.chain in
    let spots = c.args.spots.now in
    let since = c.args.since.now in
    elim c.if-not-has.branch [
      | then-not-has+then-part-len w ↦
          let at = (get_or spots chain no_place).part in
          let more = w.saturating_add.result in
          let within : at < length counts = omega (arith, w.if-part-len.true, w.len-then-not-has.ensures) in
          let here = was.1 at within in
          let one : more ≡ get_or counts at 0 + 1 = omega (arith, w.saturating_add.ensures, w.index.ensures, get_or_default counts at 0 w.index.result.now within, here, kept_within spots since at chain, c.ranges.chains, c.loop-chain-test.true) in
          let sum = sum_by-set (λ n. n) counts at more 0 within in
          rw w.counts-is (
            length-set counts at more ∙ was.0,
            λ part less. count_one spots since chain counts was.1 at more within (sym c.has.ensures ∙ w.if-not-has.true) refl one part (omega (arith, less, length-set counts at more)),
            omega (arith, sum, one, was.2),
          )
      | else-not-has w ↦
          let outside : get_or since chain false ≡ false → length counts ≤ (get_or spots chain no_place).part =
          elim w.else-not-has.branch [
            | else-not-has-via-then-not-has+else-part-len w' ↦ λ free. omega (arith, w'.if-part-len.false, w'.len-then-not-has.ensures)
            | else-not-has-via-else-not-has w' ↦ λ free. absurd (both_ways c.has.result (c.has.ensures ∙ free) w'.if-not-has.false)
          ] in
          rw w.counts-is (
            was.0,
            count_none spots since chain counts was.1 outside,
            omega (arith, was.2),
          )
    ]

use Rattle.std.proofs.Common.{◌≡◌, ◌+◌, ◌<◌, false, length, get_or, sym, ◌∙◌, arith}
use Rattle.std.proofs.lemmas.Bool.{both_ways}
use Rattle.std.proofs.lemmas.List.{get_or-set_other}
use Rattle.prepare_commit.specs.Begun.{no_place}
use Rattle.prepare_commit.proofs.Keeping.{kept_all, kept_none, kept_one}
use Rattle.prepare_commit.proofs.Retiring.{left_elsewhere, left_noted, notes_both, notes_one, one_more}
use Rattle.prepare_commit.proofs.retire.note_in.Goals as goal
use Rattle.prepare_commit.proofs.retire.note_in.Goals.{then-lies_in+else-left-eq0, else-lies_in}

pub returns-then-left-eq0-clause-full : goal.returns-then-left-eq0-clause-full
returns-then-left-eq0-clause-full c few =
    let was = c.loop-chain.invariant in
    let chain = c.loop-chain.chain in
    let here = c.lies_in.ensures.0 c.if-lies_in.true in
    let one = kept_one c.args.spots.now c.args.since.now c.args.part chain (sym (was.4 chain (omega arith)) ∙ here.0) here.1 in
    let all = kept_all c.args.spots.now c.args.since.now c.args.part (chain + 1) c.args.chains (omega (arith, c.loop-chain-test.true)) in
    absurd (omega (arith, few, one, all, was.3, c.if-left-eq0.true))

pub loop-chain-preserved : goal.loop-chain-preserved
loop-chain-preserved c =
    let was = c.loop-chain.invariant in
    let since = c.loop-chain.since in
    let chain = c.loop-chain.chain in
    let spots = c.args.spots.now in
    let part = c.args.part in
    let less : chain < length since = omega (arith, c.loop-chain-test.true, was.0.0, c.requires.since) in
    elim c.if-lies_in.branch [
      | then-lies_in+else-left-eq0 w ↦
          let here = c.lies_in.ensures.0 w.if-lies_in.true in
          let one = kept_one spots c.args.since.now part chain (sym (was.4 chain (omega arith)) ∙ here.0) here.1 in
          rw (w.since-is, w.left-is, w.note.ensures) (
            notes_both c.args.since.now since _ was.0 (notes_one since chain less),
            left_noted since chain less spots part was.1,
            (let more = one_more since chain less here.0 in omega (arith, more, was.2, w.if-left-eq0.false)),
            omega (arith, one, was.3, w.if-left-eq0.false),
            λ n later. get_or-set_other since chain n _ false (λ same. omega (arith, same, later)) ∙ was.4 n (omega (arith, later)),
          )
      | else-lies_in w ↦
          let elsewhere : (get_or since chain false ≡ false) × ((get_or spots chain no_place).part ≡ part) → ⊥ = λ both. both_ways c.lies_in.result w.if-lies_in.false (c.lies_in.ensures.1 both) in
          let none = kept_none spots c.args.since.now part chain (λ free there. elsewhere (was.4 chain (omega arith) ∙ free, there)) in
          rw (w.since-is, w.left-is) (
            was.0,
            left_elsewhere spots since chain part elsewhere was.1,
            was.2,
            omega (arith, none, was.3),
            λ n later. was.4 n (omega (arith, later)),
          )
    ]

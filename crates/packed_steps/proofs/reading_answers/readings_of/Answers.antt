use Rattle.std.proofs.Common.{◌≡◌, List, ℕ, take, Some, sym, ap, ◌∙◌, arith}
use Rattle.std.proofs.lemmas.List.{length-set, take_more_set}
use Rattle.plain_store.specs.declared.reading.Reading.{Reading}
use Rattle.packed_steps.specs.PackedAnswers.{reading_at}
use Rattle.packed_steps.proofs.ManyLoop.{many_go_on, many_stop, many_end}
use Rattle.packed_steps.proofs.reading_answers.readings_of.Goals as goal

pub returns-in_default : goal.returns-in_default
returns-in_default c =
    sym (many_stop reading_at c.args.count c.args.bytes.now (take c.loop-at.at c.loop-at.readings) c.loop-at.at c.loop-at.rest.now c.loop-at-test.true (sym c.in_default.ensures) c.loop-at.invariant.so_far)

pub loop-at-preserved : goal.loop-at-preserved
loop-at-preserved c =
    let inv = c.loop-at.invariant in
    record {
      within = omega (arith, c.loop-at-test.true);
      full = length-set c.loop-at.readings c.loop-at.at _ ∙ inv.full;
      so_far = rw (take_more_set c.loop-at.readings c.loop-at.at c.in-Some.reading (omega (arith, inv.full, c.loop-at-test.true, c.requires))) (many_go_on reading_at c.args.count c.args.bytes.now (take c.loop-at.at c.loop-at.readings) c.loop-at.at c.loop-at.rest.now _ _ c.loop-at-test.true (sym c.in-Some.ensures) inv.so_far);
    }

pub returns : goal.returns
returns c =
    let inv = c.loop-at.invariant in
    let all : c.args.count ≡ c.loop-at.at = omega (arith, inv.within, c.loop-at-test.false) in
    let told = rw c.unwrap-told.ensures at c.of.ensures.value in
    ap (λ (list : List Reading). Some (list, c.loop-at.rest.now)) told
    ∙ ap (λ (n : ℕ). Some (take n c.loop-at.readings, c.loop-at.rest.now)) all
    ∙ sym (many_end reading_at c.args.count c.args.bytes.now (take c.loop-at.at c.loop-at.readings) c.loop-at.at c.loop-at.rest.now all inv.so_far)

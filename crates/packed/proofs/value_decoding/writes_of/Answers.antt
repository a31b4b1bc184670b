use Rattle.std.proofs.Common.{refl, sym, ◌∙◌, arith}
use Rattle.std.proofs.lemmas.List.{length-set}
use Rattle.packed.proofs.KeyLoop.{key_found, no_text, no_key, begins, begins_not, goes_on, stops, ends, written, refused}
use Rattle.packed.proofs.value_decoding.writes_of.Goals as goal

pub returns-in_err-text : goal.returns-in_err-text
returns-in_err-text c = rw c.from_residual.ensures (sym (begins_not c.args.count c.args.bytes.now c.requires.some (no_text _ (sym c.in_err-text.ensures))))

pub returns-in_err-first : goal.returns-in_err-first
returns-in_err-first c =
    rw c.from_residual-in_err-first.ensures (sym (begins_not c.args.count c.args.bytes.now c.requires.some (no_key _ _ c.in_ok-text.after_first.now (sym c.in_ok-text.ensures) (sym c.in_err-first.ensures))))

pub loop-at-init : goal.loop-at-init
loop-at-init c = record {
  within = omega (arith, c.requires.some);
  full = refl;
  so_far = begins c.args.count c.args.bytes.now c.in_ok-first.first c.in_ok-text.after_first.now c.requires.some (key_found _ _ _ _ (sym c.in_ok-text.ensures) (sym c.in_ok-first.ensures));
}

pub returns-in_err-part : goal.returns-in_err-part
returns-in_err-part c =
    rw c.from_residual-in_err-part.ensures (sym (stops c.args.count c.args.bytes.now c.loop-at.keys c.loop-at.at c.loop-at.rest.now c.loop-at-test.true (no_text _ (sym c.in_err-part.ensures)) c.loop-at.invariant.so_far))

pub returns-in_err-key : goal.returns-in_err-key
returns-in_err-key c =
    rw c.from_residual-in_err-key.ensures (sym (stops c.args.count c.args.bytes.now c.loop-at.keys c.loop-at.at c.loop-at.rest.now c.loop-at-test.true (no_key _ _ c.in_ok-part.after.now (sym c.in_ok-part.ensures) (sym c.in_err-key.ensures)) c.loop-at.invariant.so_far))

pub loop-at-preserved : goal.loop-at-preserved
loop-at-preserved c =
    let inv = c.loop-at.invariant in
    record {
      within = omega (arith, c.loop-at-test.true);
      full = length-set c.loop-at.keys c.loop-at.at _ ∙ inv.full;
      so_far = goes_on c.args.count c.args.bytes.now c.loop-at.keys c.loop-at.at c.loop-at.rest.now c.in_ok-key.key c.in_ok-part.after.now c.loop-at-test.true (omega (arith, inv.full, c.loop-at-test.true, c.requires.few)) (key_found _ _ _ _ (sym c.in_ok-part.ensures) (sym c.in_ok-key.ensures)) inv.so_far;
    }

pub returns-in_err-writes : goal.returns-in_err-writes
returns-in_err-writes c =
    let inv = c.loop-at.invariant in
    let all = ends c.args.count c.args.bytes.now c.loop-at.keys c.loop-at.at c.loop-at.rest.now (omega (arith, inv.within, c.loop-at-test.false)) inv.so_far in
    rw c.from_residual-in_err-writes.ensures (refused c.args.count c.args.bytes.now c.loop-at.keys c.loop-at.rest.now all c.in_err-writes.ensures)

pub returns : goal.returns
returns c =
    let inv = c.loop-at.invariant in
    let all = ends c.args.count c.args.bytes.now c.loop-at.keys c.loop-at.at c.loop-at.rest.now (omega (arith, inv.within, c.loop-at-test.false)) inv.so_far in
    written c.args.count c.args.bytes.now c.loop-at.keys c.loop-at.rest.now c.in_ok-writes.writes all c.in_ok-writes.ensures

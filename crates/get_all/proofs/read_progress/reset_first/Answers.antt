use Rattle.std.proofs.Common.{◌≡◌, ◌<◌, ◌≤◌, length, map, take, ap, sym, ◌∙◌, arith, length-set}
use Rattle.std.proofs.lemmas.List.{take_all}
use Rattle.plain_store.proofs.Marking.{filled_more}
use Rattle.get_all.specs.ReadProgress.{slot_for}
use Rattle.get_all.proofs.read_progress.reset_first.Goals as goal

pub loop-i-preserved : goal.loop-i-preserved
loop-i-preserved c =
    let keys = c.args.keys.now in
    let slots = c.loop-i.slots in
    let i = c.loop-i.i in
    let within : i < length keys = omega (arith, c.loop-i-test.true) in
    let room : i < length slots = omega (arith, within, c.requires, c.loop-i.invariant.as_long) in
    record {
      filled = filled_more slot_for keys slots i c.index-keys-i.result c.reset.new.self within room c.index-keys-i.is c.reset.ensures c.loop-i.invariant.filled;
      as_long = length-set slots i c.reset.new.self ∙ c.loop-i.invariant.as_long;
      few = omega (arith, within);
    }

pub returns-clause-slots : goal.returns-clause-slots
returns-clause-slots c =
    let keys = c.args.keys.now in
    let past : length keys ≤ c.loop-i.i = omega (arith, c.loop-i-test.false) in
    let whole : take c.loop-i.i keys ≡ keys = take_all c.loop-i.i keys past in
    let last : c.loop-i.i ≡ length keys = omega (arith, past, c.loop-i.invariant.few) in
    ap (λ n. take n c.loop-i.slots) (sym last) ∙ c.loop-i.invariant.filled ∙ ap (map slot_for) whole

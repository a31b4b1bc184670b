use Rattle.std.proofs.Common.{◌<◌, ◌≤◌, false, length, set, get_or, ap, ◌∙◌, arith}
use Rattle.std.proofs.lemmas.List.{get_or_default}
use Rattle.std.proofs.lemmas.List.Edits.{map_over_more}
use Rattle.plain_store.proofs.Marking.{mapped_all, length-mapped}
use Rattle.get_all.specs.AskedPartition.{with_told}
use Rattle.get_all.specs.declared.told.AskedPartition.{AskedPartition}
use Rattle.get_all.proofs.told.take_told.Goals as goal

pub loop-one-preserved : goal.loop-one-preserved
loop-one-preserved c =
    let mark = with_told c.args.partition in
    let xs = c.args.asked.now in
    let ys = c.loop-one.asked in
    let i = c.loop-one.one-index in
    let none : AskedPartition = record { partition = 0; has_told = false } in
    let x = get_or ys i none in
    let within : i < length xs = omega (arith, c.loop-one-test.true) in
    let long = length-mapped mark xs ys i c.loop-one.invariant in
    let among : i < length ys = omega (arith, long) in
    ap (set ys i) c.with_told.ensures
    ∙ map_over_more mark xs ys i x within c.loop-one.invariant (get_or_default ys i none x among)

pub returns : goal.returns
returns c =
    let mark = with_told c.args.partition in
    let past : length c.args.asked.now ≤ c.loop-one.one-index = omega arith in
    mapped_all mark c.args.asked.now c.loop-one.asked c.loop-one.one-index past c.loop-one.invariant

use Rattle.std.proofs.Common.{◌≤◌, ◌<◌, length, arith, refl}
use Rattle.std.proofs.lemmas.Option.{slice_get_read}
use Rattle.closed_store.proofs.Filled.{not_appended, is_appended}
use Rattle.closed_store.proofs.join.filling.append_at.Goals as goal

pub returns-then-place-len : goal.returns-then-place-len
returns-then-place-len c =
    let past : length c.args.lists.now.items ≤ c.args.place = omega (arith, c.args.lists.now.ok.0) in
    not_appended c.args.lists.now.items c.args.place c.args.list.items past

pub returns : goal.returns
returns c =
    let within : c.args.place < length c.args.lists.now.items = omega (arith, c.args.lists.now.ok.0) in
    is_appended c.args.lists.now.items c.args.place c.args.list.items c.index_mut.result.now c.append.new.self within
    (slice_get_read c.args.lists.now.items _ c.args.place c.index_mut.result.now refl within c.index_mut.ensures.value) c.in_ok-append.ensures.ok

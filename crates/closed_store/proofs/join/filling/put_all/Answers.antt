use Rattle.std.proofs.Common.{◌≡◌, ◌<◌, length, slice_get, Some, refl, sym, ap, ◌∙◌, arith}
use Rattle.std.proofs.lemmas.List.{length-set}
use Rattle.std.proofs.lemmas.Option.{slice_get_read, slice_get-get_or}
use Rattle.closed_store.proofs.Below.{done_more, slice_get-set_other}
use Rattle.closed_store.proofs.Filled.{HasList, has_list, all_put}
use Rattle.closed_store.proofs.join.filling.put_all.Goals as goal

pub loop-place-preserved : goal.loop-place-preserved
loop-place-preserved c =
    let place = c.loop-place.place in
    let lists = c.loop-place.lists.items in
    let within : place < length c.loop-place.transcripts = omega arith in
    let within' : place < length lists = omega (arith, c.loop-place.invariant.as_many) in
    let taken : slice_get lists place ≡ Some c.replace-list.result =
    slice_get_read lists _ place c.index_mut.result.now refl within' c.index_mut.ensures.value ∙ ap Some (sym c.replace-list.ensures.value) in
    let its : slice_get c.args.lists.items place ≡ Some c.replace-list.result = sym (c.loop-place.invariant.lists place (omega arith)) ∙ taken in
    record {
      done = done_more (HasList c.args.lists.items) c.args.transcripts.now c.loop-place.transcripts place _ c.put_first.new.transcript within
          (slice_get-get_or c.loop-place.transcripts place _ within)
          (has_list c.args.lists.items place c.replace-list.result _ c.put_first.new.transcript its c.in_ok-put_first.ensures) c.loop-place.invariant.done;
      lists = λ other from.
          slice_get-set_other lists place other c.replace-list.new.dest (λ same. omega (arith, from, same)) ∙ c.loop-place.invariant.lists other (omega (arith, from));
      as_many = length-set lists place c.replace-list.new.dest ∙ c.loop-place.invariant.as_many;
    }

pub returns : goal.returns
returns c =
    all_put c.args.lists.items c.args.transcripts.now c.loop-place.transcripts c.loop-place.place c.loop-place-test.false c.loop-place.auto.transcripts c.loop-place.invariant.done

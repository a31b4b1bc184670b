use Rattle.std.proofs.Common.{◌∷◌, [], ◌++◌, refl, ap, ◌∙◌}
use Rattle.std.proofs.lemmas.List.{length-set}
use Rattle.std.proofs.lemmas.Option.{slice_get_read}
use Rattle.settle.proofs.Rows.{pushed}
use Rattle.settle.proofs.steps_taken.push_at.Goals as goal

pub returns : goal.returns
returns c = record {
  pushed = record {
    ok = pushed c.args.lists.now.items c.args.place c.index_mut-list.result.now c.push_reserved.new.self (c.args.row ∷ []) (slice_get_read c.args.lists.now.items _ c.args.place c.index_mut-list.result.now refl c.requires c.index_mut-list.ensures.value)
        (c.push_reserved.ensures.items ∙ ap (λ items. items ++ c.args.row ∷ []) c.reserve.ensures.items);
    err = tt;
  };
  len = length-set c.args.lists.now.items c.args.place c.push_reserved.new.self;
}

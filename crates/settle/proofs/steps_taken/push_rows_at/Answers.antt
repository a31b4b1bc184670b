use Rattle.std.proofs.Common.{refl}
use Rattle.std.proofs.lemmas.List.{length-set}
use Rattle.std.proofs.lemmas.Option.{slice_get_read}
use Rattle.settle.specs.Trace.{rows_sent}
use Rattle.settle.proofs.Words.{on_ok_map}
use Rattle.settle.proofs.Rows.{pushed}
use Rattle.settle.proofs.steps_taken.push_rows_at.Goals as goal

pub returns : goal.returns
returns c = record {
  pushed = record {
    ok = on_ok_map c.push_rows.result (λ is. pushed c.args.lists.now.items c.args.place c.index_mut.result.now c.push_rows.new.list (rows_sent c.args.answer.now)
        (slice_get_read c.args.lists.now.items _ c.args.place c.index_mut.result.now refl c.requires c.index_mut.ensures.value) is) c.push_rows.ensures.ok;
    err = c.push_rows.ensures.err;
  };
  len = length-set c.args.lists.now.items c.args.place c.push_rows.new.list;
}

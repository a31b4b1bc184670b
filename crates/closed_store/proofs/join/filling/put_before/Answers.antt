use Rattle.std.proofs.Common.{List, length, sym, ap, ◌∙◌, subst}
use Rattle.closed_store.specs.declared.transcript.Transcript.{Transcript}
use Rattle.closed_store.specs.Filling.{AreFilled, AreFirstPlaces, AreGathered, ArePut}
use Rattle.closed_store.proofs.Filled.{written_back, all_filled}
use Rattle.closed_store.proofs.join.filling.put_before.Goals as goal

pub put_all-requires : goal.put_all-requires
put_all-requires c = c.in_ok-lists.ensures.as_many ∙ c.len.ensures ∙ c.args.transcripts.ok.0 ∙ sym (ap length c.as_mut_slice.ensures.value)

pub returns : goal.returns
returns c =
    let old = c.args.transcripts.items in
    let new = c.put_all.new.transcripts in
    let places = c.in_ok-places.places in
    let lists = c.in_ok-lists.lists.items in
    let are = subst (λ (ts : List Transcript). AreFirstPlaces ts (length ts) places) c.as_slice.ensures.value c.in_ok-places.ensures in
    let gathered = subst (λ n. AreGathered places c.args.entries.items n lists) (c.len.ensures ∙ c.args.transcripts.ok.0) c.in_ok-lists.ensures in
    let put = subst (λ (ts : List Transcript). ArePut lists ts new) c.as_mut_slice.ensures.value c.in_ok-put_all.ensures in
    subst (AreFilled c.args.entries.items old) (sym (written_back new old c.args.transcripts.len put.as_many c.args.transcripts.ok.0))
    (all_filled places old c.args.entries.items are lists new gathered put)

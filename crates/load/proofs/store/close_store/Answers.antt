use Rattle.std.proofs.Common.{◌∙◌, List, ap, subst, sym}
use Rattle.std.specs.Global.{Vec}
use Rattle.std.specs.Prelude.{IfSome}
use mathlib.Core.List.{IsPrefix}
use Rattle.closed_store.specs.declared.transcript.Transcript.{Transcript}
use Rattle.history.specs.declared.entry.HistoryEntry.{HistoryEntry}
use Rattle.hub.specs.Hubs.{AllTraced}
use Rattle.load.proofs.Histories.{has_history, of_history}
use Rattle.load.proofs.store.close_store.Goals as goal

pub returns : goal.returns
returns g c =
    let closed = c.close_with_history-closed.result.0 in
    let e = c.close_with_history-closed.ensures in
    let given = c.into_both-transcripts.ensures.given in
    let same = sym c.again.ensures.same in
    let P : List HistoryEntry → Type 0 = λ log. AllTraced log 0 closed.journals.items in
    let Q : List HistoryEntry → Type 0 = λ log. IfSome c.into_both-transcripts.result.1 (λ theirs. IsPrefix theirs log) in
    let history = of_history closed _ _ _ e.left.transcripts c.again.ensures.legal (subst Q same e.seats) (subst P same e.history) given in
    record {
      closed = record {
        config = e.left.config;
        parts = e.left.parts;
        books = e.left.books;
        history = has_history closed _ history;
      };
      transcripts = e.left.transcripts ∙ ap (λ (v : Vec Transcript). v.items) c.into_both-transcripts.ensures.transcripts;
      history = history;
    }

use Rattle.std.proofs.Common.{sym, ◌∙◌, ap, length}
use Rattle.std.proofs.lemmas.List.{length-map}
use Rattle.plain_store.specs.Finding.{below}
use Rattle.tenant_sessions.specs.Parts.{batch_calls, batch_of}
use Rattle.tenant_sessions.proofs.Placed.{length-below}
use Rattle.tenant_sessions.proofs.call_batch.CallBatch.len.Goals as goal

pub returns-in-Searching : goal.returns-in-Searching
returns-in-Searching c =
    let p = c.self.inside in
    sym (ap (λ q. length (batch_calls c.args.parts q)) (sym c.self.view_is ∙ ap (λ k. batch_of k p.versions p.stamp p.partitions p.keys p.late p.tag) c.in-Searching.is) ∙ length-map (below c.args.parts) _ ∙ length-below c.args.parts)

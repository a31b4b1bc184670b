use Rattle.std.proofs.Common.{sym, ◌∙◌, ap, false}
use Rattle.std.proofs.lemmas.Bool.{le-ltb}
use Rattle.std.specs.Option.{option_map_or}
use Rattle.tenant_sessions.specs.Parts.{batch_calls, batch_of, searches, is_answered_at}
use Rattle.tenant_sessions.proofs.Placed.{below_at, below_past, searches_at}
use Rattle.tenant_sessions.proofs.call_batch.CallBatch.is_answered_at.Goals as goal

pub returns-then-place-parts : goal.returns-then-place-parts
returns-then-place-parts c =
    let p = c.self.inside in
    let message = c.args.message.now in
    let at = below_at c.args.parts c.args.place c.if-place-parts.true in
    c.searches.ensures ∙ sym (ap (λ q. is_answered_at (batch_calls c.args.parts q) message c.args.place) (sym c.self.view_is ∙ ap (λ k. batch_of k p.versions p.stamp p.partitions p.keys p.late p.tag) c.in-Searching.is)
    ∙ searches_at c.args.parts _ message c.args.place ∙ ap (λ o. option_map_or (λ q. searches q message) o false) at)

pub returns-else-place-parts : goal.returns-else-place-parts
returns-else-place-parts c =
    let p = c.self.inside in
    let message = c.args.message.now in
    let past = below_past c.args.parts c.args.place c.if-place-parts.false in
    le-ltb c.args.place c.args.parts c.if-place-parts.false ∙ sym (ap (λ q. is_answered_at (batch_calls c.args.parts q) message c.args.place) (sym c.self.view_is ∙ ap (λ k. batch_of k p.versions p.stamp p.partitions p.keys p.late p.tag) c.in-Searching.is)
    ∙ searches_at c.args.parts _ message c.args.place ∙ ap (λ o. option_map_or (λ q. searches q message) o false) past)

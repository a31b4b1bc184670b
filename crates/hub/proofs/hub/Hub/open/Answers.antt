use Rattle.std.proofs.Common.{◌∙◌, List, refl, subst, sym}
use Rattle.history.specs.Legal.{HasParts}
use Rattle.history.specs.declared.entry.HistoryEntry.{HistoryEntry}
use Rattle.hub.proofs.hub.Hub.open.Goals as goal

-- each partition's shard is of this config, and keeps journals as the store is to
pub invariant_of-result : goal.invariant_of-result
invariant_of-result g c =
    let ready = c.in_ok-started.ensures in
    let P : List HistoryEntry → Type 0 = λ log. ∥ HasParts log c.args.store.config.parts ∥₁ in (
      ready.started,
      ready.left.0,
      ready.counts.0,
      ready.calls.0,
      ready.left.1,
      ready.counts.1,
      ready.calls.1,
      ready.shards,
      ready.journals_kept,
      subst P (sym (c.named-of_clients.ensures.front ∙ c.args.store.opening)) ∣ refl ∣₁,
    )

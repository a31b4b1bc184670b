use Rattle.std.proofs.Common.{arith, refl, sym, ◌∙◌, ap, Some}
use Rattle.std.specs.Option.{option_map}
use Rattle.std.proofs.lemmas.Option.{slice_get-map}
use Rattle.plain_store.specs.Finding.{below}
use Rattle.plain_store.specs.Writing.{Outgoing}
use Rattle.plain_store.specs.declared.calls.Call.{Call}
use Rattle.tenant_sessions.proofs.Placed.{below_at, below_past}
use Rattle.tenant_sessions.proofs.call_batch.CallBatch.found_into.Goals as goal

pub returns-then-partition-parts : goal.returns-then-partition-parts
returns-then-partition-parts c =
    let none = below_past c.args.parts c.args.partition c.if-partition-parts.true in
    record {
      told = sym (slice_get-map _ (below c.args.parts) c.args.partition ∙ ap (option_map _) none);
      rest = refl;
      unchanged = λ _. refl;
    }

pub returns : goal.returns
returns c =
    let at = below_at c.args.parts c.args.partition (omega arith) in
    let made : Call → Outgoing = λ call. record { partition = c.args.partition; call = call } in
    record {
      told = ap (λ call. Some (made call)) c.begin_found.ensures ∙ sym (slice_get-map _ (below c.args.parts) c.args.partition ∙ ap (option_map _) at);
      rest = refl;
      unchanged = λ e. cc;
    }

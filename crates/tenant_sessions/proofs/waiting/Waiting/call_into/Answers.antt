use Rattle.std.proofs.Common.{ap, sym, ◌∙◌, slice_get, refl}
use Rattle.tenant_sessions.specs.Parts.{batch_calls}
use Rattle.tenant_sessions.proofs.Placed.{element_at, placed_at}
use Rattle.tenant_sessions.proofs.waiting.Waiting.call_into.Goals as goal

pub returns-in_default : goal.returns-in_default
returns-in_default c =
    let w = c.self.inside in
    let calls = batch_calls w.parts w.part in
    record {
      told = sym (placed_at calls w.places c.args.nth c.self.invariant.1 ∙ ap (element_at calls) (sym c.get.ensures ∙ c.in_default.is)) ∙ ap (λ outs. slice_get outs c.args.nth) c.self.view_is;
      rest = refl;
      unchanged = λ _. refl;
    }

pub returns : goal.returns
returns c =
    let w = c.self.inside in
    let calls = batch_calls w.parts w.part in
    let at = sym c.get.ensures ∙ c.in-Some.is in
    record {
      told = c.call_into.ensures.told ∙ ap (slice_get calls) c.from.ensures ∙ sym (placed_at calls w.places c.args.nth c.self.invariant.1 ∙ ap (element_at calls) at)
          ∙ ap (λ outs. slice_get outs c.args.nth) c.self.view_is;
      rest = c.call_into.ensures.rest;
      unchanged = c.call_into.ensures.unchanged;
    }

use Rattle.std.proofs.Common.{ap, sym, ◌∙◌, length}
use Rattle.tenant_sessions.specs.Parts.{batch_calls}
use Rattle.tenant_sessions.proofs.Placed.{length-placed}
use Rattle.tenant_sessions.proofs.waiting.Waiting.len.Goals as goal

pub returns-clause-value : goal.returns-clause-value
returns-clause-value c =
    let calls = batch_calls c.self.inside.parts c.self.inside.part in
    ap length c.as_slice.ensures.value ∙ sym (length-placed calls c.self.inside.places c.self.invariant.1) ∙ ap length c.self.view_is

use Rattle.std.proofs.Common.{◌∙◌, ap, length, nat_lt}
use Rattle.tenant_sessions.specs.Holding.{RunningMachine}
use Rattle.tenant_sessions.specs.Parts.{outgoing_of}
use Rattle.tenant_sessions.proofs.Placed.{made_so}
use Rattle.tenant_sessions.proofs.running.Running.call_into.Goals as goal

pub returns-clause-made : goal.returns-clause-made
returns-clause-made c =
    made_so c.self.inside.waiting c.args.nth c.call_into.result (outgoing_of c.call_into.new.message) c.call_into.ensures.told
    ∙ ap (λ (r : RunningMachine). nat_lt c.args.nth (length r.waiting)) c.self.view_is

use Rattle.std.proofs.Common.{◌∙◌}
use Rattle.workload.proofs.serve.server_of.Goals as goal

pub returns-clause-connections : goal.returns-clause-connections
returns-clause-connections g c = (c.with_options.ensures.connections.0 ∙ c.in_ok-server.ensures.most, c.with_options.ensures.connections.1 ∙ c.in_ok-server.ensures.stays)

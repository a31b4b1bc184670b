use Rattle.tenant_sessions.proofs.Starting.{passes_good}
use Rattle.tenant_sessions.proofs.session.are_readable.Goals as goal

pub returns-clause-exact : goal.returns-clause-exact
returns-clause-exact c = passes_good c.args.keys.now c.are_keys.result c.are_keys.ensures.0 c.are_keys.ensures.1

pub returns-clause-few : goal.returns-clause-few
returns-clause-few c = λ yes. (c.are_keys.ensures.0 yes).at_most

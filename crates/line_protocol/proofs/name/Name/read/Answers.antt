use Rattle.line_protocol.proofs.StepLaws.{name_is_tag}
use Rattle.line_protocol.proofs.name.Name.read.Goals as goal

pub returns-in_err-read-clause-exact : goal.returns-in_err-read-clause-exact
returns-in_err-read-clause-exact c = rw c.from_residual.ensures (λ e. absurd cc, λ is. let e = c.in_err-read.ensures.exact.1 (name_is_tag c.args.bytes.now is) in absurd cc)

use Rattle.std.proofs.Common.{refl}
use Rattle.tenant_sessions.proofs.current.Current.begin_find.Goals as goal

pub returns : goal.returns
returns c = λ setup parts. (refl, c.begin_find.ensures setup parts)

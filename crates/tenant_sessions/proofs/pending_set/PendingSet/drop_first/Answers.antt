use Rattle.std.proofs.Common.{ap, sym, ◌∙◌, arith, drop, length}
use Rattle.std.proofs.lemmas.List.{drop-drop, length-drop}
use Rattle.tenant_sessions.proofs.pending_set.PendingSet.drop_first.Goals as goal

pub invariant_of-self : goal.invariant_of-self
invariant_of-self c = (omega (arith, c.requires, ap length c.self.view_is, length-drop c.self.inside.from c.self.inside.places, c.self.invariant.0), c.self.invariant.1)

pub overflow_add-self : goal.overflow_add-self
overflow_add-self c = omega (arith, c.self.invariant.0, c.self.invariant.1)

pub returns : goal.returns
returns c = sym (drop-drop 1 c.self.inside.from c.self.inside.places) ∙ ap (drop 1) c.self.view_is

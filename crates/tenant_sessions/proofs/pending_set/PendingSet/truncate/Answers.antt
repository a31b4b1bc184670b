use Rattle.std.proofs.Common.{◌+◌, ◌≤◌, ap, ◌∙◌, arith, drop, length, take}
use Rattle.std.proofs.lemmas.List.{drop-take, length-drop, length-take-le}
use Rattle.tenant_sessions.proofs.pending_set.PendingSet.truncate.Goals as goal

pub invariant_of-self : goal.invariant_of-self
invariant_of-self c =
    let p = c.self.inside in
    let few : p.from + c.args.count ≤ length p.places = omega (arith, c.requires, ap length c.self.view_is, length-drop p.from p.places, c.self.invariant.0) in
    let long = ap length c.truncate.ensures ∙ length-take-le (p.from + c.args.count) p.places few in
    (omega (arith, long), omega (arith, long, few, c.self.invariant.1))

pub overflow_add-self-inside : goal.overflow_add-self-inside
overflow_add-self-inside c = omega (arith, c.requires, ap length c.self.view_is, length-drop c.self.inside.from c.self.inside.places, c.self.invariant.0, c.self.invariant.1)

pub returns : goal.returns
returns c =
    ap (drop c.self.inside.from) c.truncate.ensures ∙ drop-take c.self.inside.from c.args.count c.self.inside.places ∙ ap (take c.args.count) c.self.view_is

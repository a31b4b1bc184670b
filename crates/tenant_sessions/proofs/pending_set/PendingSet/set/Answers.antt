use Rattle.std.proofs.Common.{◌+◌, ap, ◌∙◌, arith, drop, length, set, length-set}
use Rattle.std.proofs.lemmas.List.{drop-set-add, length-drop}
use Rattle.tenant_sessions.proofs.pending_set.PendingSet.set.Goals as goal

pub set-requires : goal.set-requires
set-requires c = omega (arith, c.requires, ap length c.self.view_is, length-drop c.self.inside.from c.self.inside.places, c.self.invariant.0)

pub invariant_of-self : goal.invariant_of-self
invariant_of-self c =
    let as_long = ap length c.set.ensures ∙ length-set c.self.inside.places (c.self.inside.from + c.args.index) c.args.place in
    (omega (arith, c.self.invariant.0, as_long), omega (arith, c.self.invariant.1, as_long))

pub overflow_add-self-inside : goal.overflow_add-self-inside
overflow_add-self-inside c = omega (arith, c.requires, ap length c.self.view_is, length-drop c.self.inside.from c.self.inside.places, c.self.invariant.0, c.self.invariant.1)

pub returns : goal.returns
returns c =
    ap (drop c.self.inside.from) c.set.ensures ∙ drop-set-add c.self.inside.from c.self.inside.places c.args.index c.args.place
    ∙ ap (λ places. set places c.args.index c.args.place) c.self.view_is

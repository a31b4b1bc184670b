use Rattle.std.proofs.Common.{arith, inl, inr}
use Rattle.version_chain.proofs.TwoLists.{none_at_stamp, run_count, second_places}
use Rattle.version_chain.proofs.kept_list.KeptList.places.Goals as goal

pub returns-clause-together : goal.returns-clause-together
returns-clause-together c =
    let main = c.self.inside.main.kept in
    let late = c.self.inside.late.kept in
    let first = c.places-first.result.0 in
    let end = c.places-first.result.1 in
    let was = c.places-first.ensures in
    let many = run_count c.args.stamp late first end was.ordered was.within was.together in
    rw (← c.self.view_is) (elim (c.self.invariant.0 c.args.stamp) [
      | inl none ↦ second_places c.args.stamp main late first end was.ordered c.len-before.result c.len-before.ensures.count (none_at_stamp c.args.stamp main none) was.together
      | inr none ↦ absurd (omega (arith, many, none, was.ordered, c.if-first-end.false))
    ])

use Rattle.version_chain.proofs.StampParts.{first-end, at_stamp_range}
use Rattle.version_chain.proofs.stamp_list.StampList.places.Goals as goal

pub place_from-first-requires : goal.place_from-first-requires
place_from-first-requires c = rw c.deref.ensures.value c.self.invariant.0

pub end_of_run-requires-clause-ascends : goal.end_of_run-requires-clause-ascends
end_of_run-requires-clause-ascends c = rw c.deref-2.ensures.value c.self.invariant.0

pub end_of_run-requires-clause-within : goal.end_of_run-requires-clause-within
end_of_run-requires-clause-within c = rw c.deref-2.ensures.value (rw c.deref.ensures.value at c.place_from-first.ensures.within)

pub end_of_run-requires-clause-first : goal.end_of_run-requires-clause-first
end_of_run-requires-clause-first c = rw c.deref-2.ensures.value (rw c.deref.ensures.value at c.place_from-first.ensures.place)

pub returns-clause-ordered : goal.returns-clause-ordered
returns-clause-ordered c =
    first-end c.self.inside.kept.items c.args.stamp c.place_from-first.result c.end_of_run.result (rw c.deref.ensures.value at c.place_from-first.ensures.place) (rw c.deref-2.ensures.value at c.end_of_run.ensures.place)
    (rw c.deref.ensures.value at c.place_from-first.ensures.within)

pub returns-clause-within : goal.returns-clause-within
returns-clause-within c = rw (← c.self.view_is) (rw c.deref-2.ensures.value at c.end_of_run.ensures.within)

pub returns-clause-together : goal.returns-clause-together
returns-clause-together c =
    rw (← c.self.view_is)
    (at_stamp_range c.self.inside.kept.items c.args.stamp c.place_from-first.result c.end_of_run.result (rw c.deref.ensures.value at c.place_from-first.ensures.place) (rw c.deref-2.ensures.value at c.end_of_run.ensures.place)
    (rw c.deref.ensures.value at c.place_from-first.ensures.within) (rw c.deref-2.ensures.value at c.end_of_run.ensures.within))

pub returns-clause-above : goal.returns-clause-above
returns-clause-above c = rw (← c.self.view_is) (rw c.deref-2.ensures.value at c.end_of_run.ensures.place)

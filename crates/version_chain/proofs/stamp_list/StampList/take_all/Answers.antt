use Rattle.std.proofs.Common.{◌≡◌, ◌++◌, take, drop, length, count_by, sym, subst, ap, ◌∙◌, arith}
use Rattle.std.proofs.Math.Seq.{take-append_seam}
use Rattle.version_chain.specs.Listing.{KeptListing, Ascends}
use Rattle.version_chain.proofs.stamp_list.StampList.take_all.Goals as goal
use Rattle.version_chain.proofs.stamp_list.StampList.take_all.Goals.{After-deref-2, After-clear}

-- the front of the longer list is the list that was
same : (c : After-deref-2) → take c.len-front.result c.deref_mut.result.now ≡ c.self.inside.kept.items
same c =
    let items = c.self.inside.kept.items in
    ap (take c.len-front.result) (c.deref_mut.ensures.value ∙ c.append_within.ensures.items)
    ∙ ap (λ n. take n (items ++ c.deref.result.now)) (let long : c.len-front.result ≡ length items = omega (arith, c.len-front.ensures, c.self.inside.kept.ok.0) in long)
    ∙ take-append_seam items c.deref.result.now

-- what was merged is the whole list
whole : (c : After-clear) → take c.append_within.new.list.len (c.merge_back.new.list ++ drop (length c.merge_back.new.list) c.append_within.new.list.items) ≡ c.merge_back.new.list
whole c =
    let new = c.merge_back.new.list in
    let more = drop (length new) c.append_within.new.list.items in
    ap (λ n. take n (new ++ more)) (sym (c.merge_back.auto.list ∙ c.deref_mut.ensures.len)) ∙ take-append_seam new more

pub merge_back-requires-clause-long : goal.merge_back-requires-clause-long
merge_back-requires-clause-long c = omega (arith, c.deref_mut.ensures.len, c.append_within.ensures.len, c.len-front.ensures, c.deref.ensures.len, c.deref-2.ensures.len)

pub merge_back-requires-clause-front : goal.merge_back-requires-clause-front
merge_back-requires-clause-front c = subst Ascends (sym (same (goal.at.merge_back-requires-clause-front c).After-deref-2)) c.self.invariant.0

pub merge_back-requires-clause-run : goal.merge_back-requires-clause-run
merge_back-requires-clause-run c = subst Ascends (sym c.deref-2.ensures.value) c.other.invariant.0

pub append_within-requires : goal.append_within-requires
append_within-requires c = record {
  room = omega (
    arith,
    c.requires,
    ap (λ (l : KeptListing). length l.kept) c.self.view_is,
    ap (λ (l : KeptListing). l.room) c.self.view_is,
    ap (λ (l : KeptListing). length l.kept) c.other.view_is,
    c.self.inside.kept.ok.0,
    c.other.inside.kept.ok.0,
    c.deref.ensures.len,
    c.self.invariant.1,
  );
}

pub invariant_of-self : goal.invariant_of-self
invariant_of-self c = (
  subst Ascends (sym (whole (goal.at.invariant_of-self c).After-clear)) c.merge_back.ensures.ascends,
  omega (arith, c.append_within.ensures.capacity, c.self.invariant.1),
)

pub invariant_of-other : goal.invariant_of-other
invariant_of-other c = (
  subst Ascends (sym c.clear.ensures.items) (λ i j d le within. absurd (omega arith)),
  omega (arith, c.clear.ensures.capacity, c.other.invariant.1),
)

pub returns-clause-merged : goal.returns-clause-merged
returns-clause-merged c test =
    let at = (goal.at.returns-clause-merged c).After-clear in
    let before = (goal.at.returns-clause-merged c).After-deref-2 in
    omega (
      arith,
      ap (count_by test) (whole at),
      c.merge_back.ensures.merged test,
      ap (count_by test) (same before),
      ap (count_by test) c.deref-2.ensures.value,
      ap (λ (l : KeptListing). count_by test l.kept) c.self.view_is,
      ap (λ (l : KeptListing). count_by test l.kept) c.other.view_is,
    )

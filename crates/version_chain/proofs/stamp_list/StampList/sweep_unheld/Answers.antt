use Rattle.std.proofs.Common.{◌≡◌, filter, rules, sym, subst, ap, ◌∙◌, arith}
use Rattle.std.proofs.lemmas.Fn.{filter_same}
use Rattle.std.proofs.lemmas.List.Kept.{IsNonDecreasingBy-filter}
use Rattle.version_chain.specs.declared.stamp_list.Kept.{Kept}
use Rattle.version_chain.specs.Listing.{KeptListing, Ascends}
use Rattle.version_chain.specs.Listed.{is_named}
use Rattle.version_chain.proofs.stamp_list.StampList.sweep_unheld.Goals as goal
use Rattle.version_chain.proofs.stamp_list.StampList.sweep_unheld.Goals.{After-retain}

left : (c : After-retain) → c.retain.new.self.items ≡ filter (is_named c.args.tenant c.args.block.now) c.self.inside.kept.items
left c = filter_same _ (is_named c.args.tenant c.args.block.now) _ (λ x b f called. search rules) c.self.inside.kept.items c.retain.new.self.items c.retain.ensures.filtered

pub invariant_of-self : goal.invariant_of-self
invariant_of-self c = (
  subst Ascends (sym (left (goal.at.invariant_of-self c).After-retain)) (IsNonDecreasingBy-filter (λ (k : Kept). k.stamp) (is_named c.args.tenant c.args.block.now) c.self.inside.kept.items c.self.invariant.0),
  omega (arith, c.retain.ensures.capacity, c.self.invariant.1),
)

pub returns-clause-swept : goal.returns-clause-swept
returns-clause-swept c =
    left (goal.at.returns-clause-swept c).After-retain ∙ ap (λ (l : KeptListing). filter (is_named c.args.tenant c.args.block.now) l.kept) c.self.view_is

use Rattle.std.proofs.Common.{arith}
use Rattle.version_chain.specs.Listed.{is_named}
use Rattle.version_chain.proofs.TwoLists.{apart_filtered}
use Rattle.version_chain.proofs.kept_list.KeptList.sweep.Goals as goal

pub invariant_of-self : goal.invariant_of-self
invariant_of-self c = (
  apart_filtered (is_named c.args.tenant c.args.block.now) c.self.inside.main.kept c.self.inside.late.kept c.sweep_unheld.new.self.kept c.sweep_unheld-2.new.self.kept c.sweep_unheld.ensures.swept c.sweep_unheld-2.ensures.swept c.self.invariant.0,
  λ any. omega (arith, c.sweep_unheld.ensures.room, c.sweep_unheld-2.ensures.room, c.self.invariant.1 (omega (arith, any, c.sweep_unheld.ensures.room))),
)

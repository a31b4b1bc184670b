use Rattle.std.proofs.Common.{refl, sym, subst, arith}
use Rattle.version_chain.specs.Changes.{HasChain}
use Rattle.version_chain.specs.Heads.{Heads}
use Rattle.version_chain.specs.Listed.{Lists}
use Rattle.version_chain.proofs.Opening.{none_listed, none_stand}
use Rattle.tests_surface.proofs.of_version_chain.is_chained.Goals as goal

pub insert-added-requires-clause-chain : goal.insert-added-requires-clause-chain
insert-added-requires-clause-chain c =
    subst (λ (h : Heads). HasChain c.in_ok-block.block h 0) (sym c.in_ok-chains.ensures)
    (record { known = omega arith; stands = none_stand c.in_ok-block.block 7 2 1 (rw c.in_ok-block.ensures refl) })

pub insert-added-requires-clause-list : goal.insert-added-requires-clause-list
insert-added-requires-clause-list c =
    subst (λ (h : Heads). Lists c.in_ok-block.block h) (sym c.in_ok-chains.ensures) (none_listed c.in_ok-block.block 7 2 1 (rw c.in_ok-block.ensures refl))

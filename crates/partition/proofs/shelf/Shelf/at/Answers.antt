use Rattle.std.proofs.Common.{◌≡◌, ◌≤◌, ◌++◌, ◌∷◌, [], List, length, sym, ap, subst, ◌∙◌, arith}
use Rattle.prepare_commit.specs.InBlock.{Parts}
use Rattle.partition.specs.OneBlock.{AreInBlock}
use Rattle.partition.specs.Shelf.{tenants, room_of, StandsFor}
use Rattle.partition.proofs.Alone.{in_block_alone}
use Rattle.partition.proofs.shelf.Shelf.at.Goals as goal
use Rattle.partition.proofs.shelf.Shelf.at.Goals.{After-push_reserved}

one : (c : After-push_reserved) → c.push_reserved.new.self.items ≡ c.in_ok-cell.cell ∷ []
one c = c.push_reserved.ensures.items ∙ ap (λ (xs : List Parts). xs ++ c.in_ok-cell.cell ∷ []) c.in_ok-cells.ensures.items

pub invariant_of-result : goal.invariant_of-result
invariant_of-result c =
    let cell = c.in_ok-cell.cell in
    let told = c.in_ok-cell.ensures in
    let enough : c.args.base.now.room.slots ≤ c.max.result = omega (arith, c.max.ensures, c.slots-slots.ensures.slots) in
    let used = told.opened.used in (
      subst (λ (cells : List Parts). AreInBlock c.at.new.block cells) (sym (one (goal.at.invariant_of-result c).After-push_reserved))
          (in_block_alone c.in_ok-block.block c.at.new.block c.max.result c.args.base.now.room.slots cell c.in_ok-block.ensures enough told.others told.opened.lies told.chains.0 told.chains.1 (omega (arith, told.live, used))),
      omega (arith, c.push_reserved.ensures.len, c.in_ok-cells.ensures.len),
    )

pub returns-clause-tenants : goal.returns-clause-tenants
unfolding tenants
returns-clause-tenants c = ap (λ (xs : List Parts). length xs) (one (goal.at.returns-clause-tenants c).After-push_reserved)

pub returns-clause-room : goal.returns-clause-room
unfolding room_of
returns-clause-room c = rw (one (goal.at.returns-clause-room c).After-push_reserved) c.in_ok-cell.ensures.opened.room

pub returns-clause-stands : goal.returns-clause-stands
unfolding StandsFor
returns-clause-stands c = rw (one (goal.at.returns-clause-stands c).After-push_reserved) c.in_ok-cell.ensures.opened.stands

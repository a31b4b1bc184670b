use Rattle.std.proofs.Common.{◌∷◌, sym, subst}
use Rattle.message_table.specs.Content.{TableContent, StandsFor}
use Rattle.message_table.proofs.Sending.{read_is_live, remove_absent, lost_value, lost_holds, lost_stands}
use Rattle.message_table.proofs.table.Table.lose.Goals as goal

pub returns-then-is_none-clause-value : goal.returns-then-is_none-clause-value
returns-then-is_none-clause-value c i = record c.args.self.now {
  live = sym (remove_absent c.args.self.now.live c.args.row (read_is_live c.args.self.now.live c.args.row c.get.result _ c.get.ensures.value c.if-is_none.ensures)) i;
}

pub invariant_of-self : goal.invariant_of-self
invariant_of-self c = (
  lost_holds c.args.self.now c.self.inside.sent c.self.inside.reserved c.self.inside.rows c.self.invariant.0 c.self.view_is c.swap_remove.new.self c.args.row c.swap_remove.ensures.updates.0 c.swap_remove.ensures.unique
      c.swap_remove.ensures.room.0,
  c.self.invariant.1,
)

pub returns-clause-value : goal.returns-clause-value
returns-clause-value c =
    lost_value c.args.self.now c.self.inside.sent c.self.inside.reserved c.self.inside.rows c.self.invariant.0 c.self.view_is c.swap_remove.new.self c.args.row c.swap_remove.ensures.updates.0

pub returns-clause-stands : goal.returns-clause-stands
returns-clause-stands c messages lost stands =
    let there = read_is_live c.args.self.now.live c.args.row c.get.result _ c.get.ensures.value c.if-is_none.ensures in
    let P : TableContent → Type 0 = λ t. StandsFor t messages (c.args.row ∷ lost) in
    subst P (sym (returns-clause-value c)) (lost_stands c.args.self.now messages lost c.args.row there stands)

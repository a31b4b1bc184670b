use Rattle.std.proofs.Common.{max, refl, sym, ◌∙◌, subst}
use Rattle.message_table.specs.Content.{TableContent, StandsFor}
use Rattle.message_table.proofs.Sending.{reserved_value, room_stands}
use Rattle.message_table.proofs.table.Table.reserve.Goals as goal

pub returns-clause-ok : goal.returns-clause-ok
returns-clause-ok c =
    reserved_value c.args.self.now c.self.inside.sent c.self.inside.reserved c.self.inside.rows c.self.invariant.0 c.self.view_is c.reserve.new.self c.from-wanted.result c.if-wanted-self.false c.reserve.ensures.entries
    ∙ (λ i. record c.args.self.now { reserved = max c.args.self.now.reserved (c.from-wanted.ensures i) })

pub returns-clause-stands : goal.returns-clause-stands
returns-clause-stands c messages lost stands =
    let P : TableContent → Type 0 = λ t. StandsFor t messages lost in
    subst P (sym (returns-clause-ok c)) (room_stands c.args.self.now _ messages lost refl refl stands)

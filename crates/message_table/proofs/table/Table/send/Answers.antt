use Rattle.std.proofs.Common.{◌++◌, [], ◌∷◌, sym, ◌∙◌, subst}
use Rattle.message_table.specs.Content.{TableContent, StandsFor}
use Rattle.message_table.proofs.Sending.{sent_value, sent_stands}
use Rattle.message_table.proofs.table.Table.send.Goals as goal

pub returns-clause-ok : goal.returns-clause-ok
returns-clause-ok c =
    sent_value c.args.self.now c.self.inside.sent c.self.inside.reserved c.self.inside.rows c.self.invariant.0 c.self.view_is c.put.new.rows
    c.args.message _ c.saturating_sub-self-inside.ensures c.in_ok-put.ensures.updates.0

pub returns-clause-stands : goal.returns-clause-stands
returns-clause-stands c messages lost stands =
    let P : TableContent → Type 0 = λ t. StandsFor t (messages ++ c.args.message ∷ []) lost in
    subst P (sym (returns-clause-ok c)) (sent_stands c.args.self.now messages lost c.args.message _ stands)

use Rattle.std.proofs.Common.{sym, ◌∙◌}
use Rattle.lists.proofs.Placing.{long, seen}
use Rattle.lists.proofs.row_list.RowList.len.Goals as goal

pub returns : goal.returns
returns g c =
    let l = c.self.inside in
    c.len.ensures ∙ l.places.ok.0 ∙ sym (long l.room l.rows.items l.places.items l.free.items c.self.invariant.0) ∙ seen l.room l.rows.items l.places.items c.args.self.now c.self.view_is

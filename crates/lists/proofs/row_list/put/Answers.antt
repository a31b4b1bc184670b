use Rattle.std.proofs.Common.{length, subst, arith}
use Rattle.lists.specs.Placed.{AreBelow}
use Rattle.lists.proofs.Placing.{below_ended}
use Rattle.lists.proofs.row_list.put.Goals as goal

pub index_mut-requires : goal.index_mut-requires
index_mut-requires g c =
    let rows = c.args.rows.now in
    let last = below_ended (length rows.items) c.pop.new.self.items c.in-Some.place (subst (AreBelow (length rows.items)) c.in-Some.ensures.items c.requires.within) in
    omega (arith, last.1, rows.ok.0)

use Rattle.std.proofs.Common.{length, ◌<◌, get_or, ap, ◌∙◌, arith}
use Rattle.lists.specs.Listing.{Listing}
use Rattle.lists.specs.Placed.{listed}
use Rattle.lists.proofs.Placing.{long, seen, place_is, element_is, row_within}
use Rattle.lists.proofs.row_list.RowList.get.Goals as goal

pub index-requires : goal.index-requires
index-requires g c =
    let l = c.self.inside in
    omega (arith, c.requires, seen l.room l.rows.items l.places.items c.args.self.now c.self.view_is, long l.room l.rows.items l.places.items l.free.items c.self.invariant.0, l.places.ok.0)

pub index-requires-2 : goal.index-requires-2
index-requires-2 g c =
    let l = c.self.inside in
    let within : c.args.index < length (listed l.rows.items l.places.items) = omega (arith, c.requires, seen l.room l.rows.items l.places.items c.args.self.now c.self.view_is) in
    omega (arith, place_is l.room l.rows.items l.places.items l.free.items c.self.invariant.0 c.args.index c.index.result.now within c.index.ensures, row_within l.room l.rows.items l.places.items l.free.items c.self.invariant.0 c.args.index within, l.rows.ok.0)

pub returns : goal.returns
returns g c =
    let l = c.self.inside in
    let within : c.args.index < length (listed l.rows.items l.places.items) = omega (arith, c.requires, seen l.room l.rows.items l.places.items c.args.self.now c.self.view_is) in
    element_is l.room l.rows.items l.places.items l.free.items c.self.invariant.0 c.args.index c.index.result.now c.index-2.result.now within c.index.ensures c.index-2.ensures
    ∙ ap (λ (v : Listing g.row.T.Denot). get_or v.items c.args.index c.index-2.result.now) c.self.view_is

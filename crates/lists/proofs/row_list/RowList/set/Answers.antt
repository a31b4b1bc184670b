use Rattle.std.proofs.Common.{◌<◌, length, set, ap, ◌∙◌, arith}
use Rattle.std.proofs.lemmas.List.{length-set}
use Rattle.lists.specs.Listing.{Listing}
use Rattle.lists.specs.Placed.{listed}
use Rattle.lists.proofs.Placing.{long, seen, place_is, row_within, written}
use Rattle.lists.proofs.row_list.RowList.set.Goals as goal

pub index-requires : goal.index-requires
index-requires g c =
    let l = c.self.inside in
    omega (arith, c.requires, seen l.room l.rows.items l.places.items c.args.self.now c.self.view_is, long l.room l.rows.items l.places.items l.free.items c.self.invariant.0, l.places.ok.0)

pub index_mut-requires : goal.index_mut-requires
index_mut-requires g c =
    let l = c.self.inside in
    let within : c.args.index < length (listed l.rows.items l.places.items) = omega (arith, c.requires, seen l.room l.rows.items l.places.items c.args.self.now c.self.view_is) in
    omega (arith, place_is l.room l.rows.items l.places.items l.free.items c.self.invariant.0 c.args.index c.index.result.now within c.index.ensures, row_within l.room l.rows.items l.places.items l.free.items c.self.invariant.0 c.args.index within, l.rows.ok.0)

pub returns-clause-items : goal.returns-clause-items
returns-clause-items g c =
    let l = c.self.inside in
    let within : c.args.index < length (listed l.rows.items l.places.items) = omega (arith, c.requires, seen l.room l.rows.items l.places.items c.args.self.now c.self.view_is) in
    ap (λ place. listed (set l.rows.items place c.args.value) l.places.items) (place_is l.room l.rows.items l.places.items l.free.items c.self.invariant.0 c.args.index c.index.result.now within c.index.ensures)
    ∙ written l.room l.rows.items l.places.items l.free.items c.self.invariant.0 c.args.index c.args.value within
    ∙ ap (λ (v : Listing g.row.T.Denot). set v.items c.args.index c.args.value) c.self.view_is

pub returns-clause-len : goal.returns-clause-len
returns-clause-len g c = ap length (returns-clause-items g c) ∙ length-set c.args.self.now.items c.args.index c.args.value

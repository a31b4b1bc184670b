use Rattle.std.proofs.Common.{◌<◌, length, ap, ◌∙◌, arith}
use Rattle.std.specs.Prelude.{remove}
use Rattle.std.proofs.lemmas.List.Edits.{length-remove}
use Rattle.lists.specs.Listing.{Listing}
use Rattle.lists.specs.Placed.{listed}
use Rattle.lists.proofs.Placing.{long, seen, place_is, taken, placed_taken}
use Rattle.lists.proofs.row_list.RowList.remove.Goals as goal

pub remove-place-requires : goal.remove-place-requires
remove-place-requires g c =
    let l = c.self.inside in
    omega (arith, c.requires, seen l.room l.rows.items l.places.items c.args.self.now c.self.view_is, long l.room l.rows.items l.places.items l.free.items c.self.invariant.0, l.places.ok.0)

pub push_within-requires : goal.push_within-requires
push_within-requires g c =
    let l = c.self.inside in
    omega (arith, c.requires, seen l.room l.rows.items l.places.items c.args.self.now c.self.view_is, long l.room l.rows.items l.places.items l.free.items c.self.invariant.0, c.self.invariant.0.counted, c.self.invariant.0.fits, l.free.ok.0, c.self.invariant.4)

pub invariant_of-self : goal.invariant_of-self
invariant_of-self g c =
    let l = c.self.inside in
    let within : c.args.index < length (listed l.rows.items l.places.items) = omega (arith, c.requires, seen l.room l.rows.items l.places.items c.args.self.now c.self.view_is) in
    let place = place_is l.room l.rows.items l.places.items l.free.items c.self.invariant.0 c.args.index c.remove-place.result within c.remove-place.ensures.value in (
      rw (c.remove-place.ensures.items, c.push_within.ensures.items, place) (placed_taken l.room l.rows.items l.places.items l.free.items c.self.invariant.0 c.args.index within),
      c.self.invariant.1,
      c.self.invariant.2,
      omega (arith, c.remove-place.ensures.capacity, c.self.invariant.3),
      omega (arith, c.push_within.ensures.capacity, c.self.invariant.4),
    )

pub returns-clause-items : goal.returns-clause-items
returns-clause-items g c =
    let l = c.self.inside in
    let within : c.args.index < length (listed l.rows.items l.places.items) = omega (arith, c.requires, seen l.room l.rows.items l.places.items c.args.self.now c.self.view_is) in
    ap (listed l.rows.items) c.remove-place.ensures.items
    ∙ taken l.room l.rows.items l.places.items l.free.items c.self.invariant.0 c.args.index within
    ∙ ap (λ (v : Listing g.row.T.Denot). remove v.items c.args.index) c.self.view_is

pub returns-clause-len : goal.returns-clause-len
returns-clause-len g c = omega (arith, ap length (returns-clause-items g c), length-remove c.args.self.now.items c.args.index c.requires)

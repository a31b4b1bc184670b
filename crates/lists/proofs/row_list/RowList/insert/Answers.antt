use Rattle.std.proofs.Common.{length, ap, ◌∙◌, arith}
use Rattle.std.specs.Prelude.{insert}
use Rattle.std.proofs.lemmas.List.Edits.{length-insert}
use Rattle.lists.specs.Listing.{Listing}
use Rattle.lists.specs.Placed.{listed}
use Rattle.lists.proofs.Placing.{long, seen, put_in}
use Rattle.lists.proofs.row_list.RowList.insert.Goals as goal

pub put-place-requires-clause-within : goal.put-place-requires-clause-within
put-place-requires-clause-within g c = c.self.invariant.0.free_within

pub put-place-requires-clause-few : goal.put-place-requires-clause-few
put-place-requires-clause-few g c =
    let l = c.self.inside in
    omega (arith, c.self.invariant.0.fits, c.self.invariant.1, l.rows.ok.0)

pub put-place-requires-clause-room : goal.put-place-requires-clause-room
put-place-requires-clause-room g c none =
    let l = c.self.inside in
    omega (arith, none, c.requires.room, ap (λ (v : Listing g.row.T.Denot). v.room) c.self.view_is, seen l.room l.rows.items l.places.items c.args.self.now c.self.view_is, long l.room l.rows.items l.places.items l.free.items c.self.invariant.0, c.self.invariant.0.counted, l.rows.ok.0, l.free.ok.0, c.self.invariant.2)

pub insert_within-requires-clause-within : goal.insert_within-requires-clause-within
insert_within-requires-clause-within g c =
    let l = c.self.inside in
    omega (arith, c.requires.within, seen l.room l.rows.items l.places.items c.args.self.now c.self.view_is, long l.room l.rows.items l.places.items l.free.items c.self.invariant.0, l.places.ok.0)

pub insert_within-requires-clause-room : goal.insert_within-requires-clause-room
insert_within-requires-clause-room g c =
    let l = c.self.inside in
    omega (arith, c.requires.room, ap (λ (v : Listing g.row.T.Denot). v.room) c.self.view_is, seen l.room l.rows.items l.places.items c.args.self.now c.self.view_is, long l.room l.rows.items l.places.items l.free.items c.self.invariant.0, l.places.ok.0, c.self.invariant.3)

pub invariant_of-self : goal.invariant_of-self
invariant_of-self g c =
    let l = c.self.inside in
    let shown = seen l.room l.rows.items l.places.items c.args.self.now c.self.view_is in
    let room = ap (λ (v : Listing g.row.T.Denot). v.room) c.self.view_is in
    let done = put_in l.room l.rows.items l.places.items l.free.items c.self.invariant.0 c.args.value c.put-place.new.rows.items c.put-place.new.free.items c.put-place.result c.args.index
    (omega (arith, c.requires.within, shown)) (omega (arith, c.requires.room, shown, room)) c.put-place.ensures.put in (
      rw c.insert_within.ensures.items done.0,
      c.self.invariant.1,
      omega (arith, c.put-place.ensures.rows_room, c.self.invariant.2),
      omega (arith, c.insert_within.ensures.capacity, c.self.invariant.3),
      omega (arith, c.put-place.ensures.free_room, c.self.invariant.4),
    )

pub returns-clause-items : goal.returns-clause-items
returns-clause-items g c =
    let l = c.self.inside in
    let shown = seen l.room l.rows.items l.places.items c.args.self.now c.self.view_is in
    let room = ap (λ (v : Listing g.row.T.Denot). v.room) c.self.view_is in
    let done = put_in l.room l.rows.items l.places.items l.free.items c.self.invariant.0 c.args.value c.put-place.new.rows.items c.put-place.new.free.items c.put-place.result c.args.index
    (omega (arith, c.requires.within, shown)) (omega (arith, c.requires.room, shown, room)) c.put-place.ensures.put in
    ap (listed c.put-place.new.rows.items) c.insert_within.ensures.items ∙ done.1 ∙ ap (λ (v : Listing g.row.T.Denot). insert v.items c.args.index c.args.value) c.self.view_is

pub returns-clause-len : goal.returns-clause-len
returns-clause-len g c = ap length (returns-clause-items g c) ∙ length-insert c.args.self.now.items c.args.index c.args.value c.requires.within

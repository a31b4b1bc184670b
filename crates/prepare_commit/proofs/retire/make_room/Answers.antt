use Rattle.std.proofs.Common.{arith}
use Rattle.std.proofs.lemmas.Bool.{both_ways}
use Rattle.prepare_commit.specs.Begun.{NotesMore}
use Rattle.prepare_commit.proofs.Keeping.{few_in_one, kept_fewer}
use Rattle.prepare_commit.proofs.Retiring.{notes_none}
use Rattle.prepare_commit.proofs.retire.make_room.Goals as goal
use Rattle.prepare_commit.proofs.retire.make_room.Goals.{then-are_wasteful+else-part-len, else-part-len-via-then-part-len+else-note_in, else-part-len-via-else-part-len, else-are_wasteful, then-are_many+else-part-len-2, else-part-len-2-via-then-part-len-2+else-note_in-2, else-part-len-2-via-else-part-len-2, else-are_many}

pub returns-clause-room : goal.returns-clause-room
returns-clause-room c many few _ =
    let counts = c.in_ok-kept.kept.items in
    let more : NotesMore c.args.since.now c.if-are_wasteful.since =
    elim c.if-are_wasteful.branch [
      | then-are_wasteful+else-part-len w ↦
          elim w.else-part-len.branch [
            | else-part-len-via-then-part-len+else-note_in w' ↦ rw (w.since-is, w'.since-is) w'.note_in.ensures.more
            | else-part-len-via-else-part-len w' ↦ rw (w.since-is, w'.since-is) (notes_none c.args.since.now)
          ]
      | else-are_wasteful w ↦ rw w.since-is (notes_none c.args.since.now)
    ] in
    elim c.if-are_many.branch [
      | then-are_many+else-part-len-2 w ↦
          let best = w.emptiest-part.result in
          elim w.else-part-len-2.branch [
            | else-part-len-2-via-then-part-len-2+else-note_in-2 w' ↦
                let fewest = few_in_one counts best (omega (arith, many, c.in_ok-kept.ensures.long)) (omega (arith, few, c.in_ok-kept.ensures.all)) (rw (← w.deref-then-are_many.ensures.value) w.emptiest-part.ensures.least) in
                let kept = c.in_ok-kept.ensures.each best (omega (arith, w'.if-part-len-2.true, c.in_ok-kept.ensures.long, w.len-then-are_many.ensures)) in
                let fewer = kept_fewer c.args.spots.now c.args.since.now c.if-are_wasteful.since c.args.chains best more in
                both_ways w'.note_in-then-part-len-2.result w'.if-note_in-2.false (w'.note_in-then-part-len-2.ensures.full (omega (arith, fewest, kept, fewer)))
            | else-part-len-2-via-else-part-len-2 w' ↦
                let within = w.emptiest-part.ensures.within (omega (arith, many, c.in_ok-kept.ensures.long, w.deref-then-are_many.ensures.len)) in
                absurd (omega (arith, within, w'.if-part-len-2.false, c.in_ok-kept.ensures.long, w.len-then-are_many.ensures))
          ]
      | else-are_many w ↦ both_ways c.are_many.result w.if-are_many.false (c.are_many.ensures.1 many)
    ]

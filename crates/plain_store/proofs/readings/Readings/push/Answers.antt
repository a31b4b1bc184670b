use Rattle.std.proofs.Common.{◌<◌, List, [], ◌∷◌, ◌++◌, arith, length-set, ap, ◌∙◌}
use Rattle.stamps.specs.Limits.{max_keys}
use Rattle.plain_store.specs.declared.reading.Reading.{Reading}
use Rattle.plain_store.specs.ReadingList.{unused}
use Rattle.plain_store.proofs.Filling.{rest_after, taken_after, has_room}
use Rattle.plain_store.proofs.readings.Readings.push.Goals as goal

pub invariant_of-self : goal.invariant_of-self
invariant_of-self c =
    let s = c.self.inside in
    let room : s.len < max_keys = has_room unused max_keys s.len c.args.self.now s.readings c.requires c.self.view_is c.self.invariant.0 c.self.invariant.1 in
    rw c.from.ensures (
      omega (arith, room),
      length-set s.readings s.len c.args.reading.now ∙ c.self.invariant.1,
      rest_after unused max_keys s.len s.readings c.args.reading.now c.self.invariant.2,
    )

pub returns : goal.returns
returns c =
    let s = c.self.inside in
    let room : s.len < max_keys = has_room unused max_keys s.len c.args.self.now s.readings c.requires c.self.view_is c.self.invariant.0 c.self.invariant.1 in
    rw c.from.ensures (
    taken_after unused s.len s.readings c.args.reading.now (omega (arith, c.self.invariant.1, room))
    ∙ ap (λ (rs : List Reading). rs ++ c.args.reading.now ∷ []) c.self.view_is
    )

use Rattle.std.proofs.Common.{◌≡◌, ◌+◌, ◌≤◌, List, ◌∷◌, ◌++◌, length, take, drop, ap, sym, ◌∙◌, length-set, arith}
use Rattle.std.proofs.lemmas.List.{length-take-le}
use Rattle.stamps.specs.Limits.{max_keys}
use Rattle.plain_store.specs.declared.reading.Reading.{Reading}
use Rattle.plain_store.specs.ReadingList.{unused}
use Rattle.plain_store.proofs.Filling.{rest_written, taken_written}
use Rattle.plain_store.proofs.readings.Readings.put_record.Goals as goal

pub invariant_of-self : goal.invariant_of-self
invariant_of-self c =
    let s = c.self.inside in
    let seen : length c.args.self.now ≡ s.len = ap (λ (rs : List Reading). length rs) (sym c.self.view_is) ∙ length-take-le s.len s.readings (omega (arith, c.self.invariant.0, c.self.invariant.1)) in
    let x = c.write_record.new.reading in
    let within : c.args.at ≤ s.len = omega (arith, c.requires.place, seen) in
    rw c.longer-self-inside.ensures (
      omega (arith, c.self.invariant.0, c.requires.room),
      length-set s.readings c.args.at x ∙ c.self.invariant.1,
      rest_written unused max_keys s.len c.args.at s.readings x within c.self.invariant.2,
    )

pub returns : goal.returns
returns c =
    let s = c.self.inside in
    let seen : length c.args.self.now ≡ s.len = ap (λ (rs : List Reading). length rs) (sym c.self.view_is) ∙ length-take-le s.len s.readings (omega (arith, c.self.invariant.0, c.self.invariant.1)) in
    let x = c.write_record.new.reading in
    let at = c.args.at in
    let within : at ≤ s.len = omega (arith, c.requires.place, seen) in
    rw c.longer-self-inside.ensures (
    taken_written s.len at s.readings x within (omega (arith, c.requires.room, c.self.invariant.1)) (omega (arith, c.self.invariant.0, c.self.invariant.1))
    ∙ ap (λ (rs : List Reading). take at rs ++ x ∷ drop (at + 1) rs) c.self.view_is
    ∙ ap (λ (r : Reading). take at c.args.self.now ++ r ∷ drop (at + 1) c.args.self.now) c.write_record.ensures
    )

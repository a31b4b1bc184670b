use Rattle.std.proofs.Common.{◌≡◌, ◌+◌, ◌-◌, ◌≤◌, ◌++◌, List, length, drop, replicate, ap, sym, ◌∙◌, arith}
use Rattle.std.proofs.lemmas.List.{take_all, length-drop, length-replicate, length-take-le, replicate-append-replicate}
use Rattle.stamps.specs.Limits.{max_keys}
use Rattle.plain_store.specs.declared.reading.Reading.{Reading}
use Rattle.plain_store.specs.ReadingList.{unused}
use Rattle.plain_store.proofs.readings.Readings.truncate.Goals as goal

pub returns-then-count-len : goal.returns-then-count-len
returns-then-count-len c =
    let s = c.self.inside in
    let seen : length c.args.self.now ≡ s.len = ap (λ (rs : List Reading). length rs) (sym c.self.view_is) ∙ length-take-le s.len s.readings (omega (arith, c.self.invariant.0, c.self.invariant.1)) in
    sym (take_all c.args.count c.args.self.now (omega (arith, seen, c.from-len.ensures, c.if-count-len.true)))

pub invariant_of-self : goal.invariant_of-self
invariant_of-self c =
    let s = c.self.inside in
    let less : c.args.count ≤ s.len = omega (arith, c.from-len.ensures, c.if-count-len.false) in
    let all : (s.len - c.args.count) + (max_keys - s.len) ≡ max_keys - c.args.count = omega (arith, c.self.invariant.0, less) in
    let rest : drop c.args.count c.blank.new.readings ≡ replicate (max_keys - c.args.count) unused =
    c.blank.ensures.blank ∙ ap (λ n. replicate (n - c.args.count) unused ++ drop n s.readings) c.from-len.ensures
    ∙ ap (λ (rs : List Reading). replicate (s.len - c.args.count) unused ++ rs) c.self.invariant.2
    ∙ replicate-append-replicate (s.len - c.args.count) (max_keys - s.len) unused ∙ ap (λ n. replicate n unused) all in
    let long : length (drop c.args.count c.blank.new.readings) ≡ max_keys - c.args.count = ap (λ (rs : List Reading). length rs) rest ∙ length-replicate (max_keys - c.args.count) unused in (
      omega (arith, c.self.invariant.0, less),
      omega (arith, long, length-drop c.args.count c.blank.new.readings, c.self.invariant.0, c.from-len.ensures, c.if-count-len.false),
      rest,
    )

use Rattle.std.proofs.Common.{◌≡◌, ◌∙◌, ◌+◌, arith, inl, inr, length, length-take-le, refl, take}
use Rattle.server_metrics.proofs.Heard.{read_on}
use Rattle.server_metrics.proofs.exchange.hear.Goals as goal

pub returns-in-Some : goal.returns-in-Some
returns-in-Some g c =
    let read = c.in_ok-taken.ensures in (
      take (c.loop.len + c.in_ok-taken.taken) c.read_more.new.bytes,
      read_on _ _ _ c.loop.bytes c.read_more.new.bytes c.loop.len c.in_ok-taken.taken c.loop.invariant.taken read.front read.taken,
      inl c.in-Some.ensures.asked,
    )

pub returns-then-len-eq-MOST_BYTES : goal.returns-then-len-eq-MOST_BYTES
returns-then-len-eq-MOST_BYTES g c =
    let read = c.in_ok-taken.ensures in (
      take (c.loop.len + c.in_ok-taken.taken) c.read_more.new.bytes,
      read_on _ _ _ c.loop.bytes c.read_more.new.bytes c.loop.len c.in_ok-taken.taken c.loop.invariant.taken read.front read.taken,
      inr (inr (refl, length-take-le (c.loop.len + c.in_ok-taken.taken) c.read_more.new.bytes read.fits ∙ c.if-len-eq-MOST_BYTES.true, c.in_default.ensures.waits)),
    )

pub loop-preserved : goal.loop-preserved
loop-preserved g c =
    let read = c.in_ok-taken.ensures in
    record {
      fits = omega (arith, read.fits, c.if-taken-eq0.array_long, c.if-len-eq-MOST_BYTES.false);
      taken = read_on _ _ _ c.loop.bytes c.read_more.new.bytes c.loop.len c.in_ok-taken.taken c.loop.invariant.taken read.front read.taken;
      none = λ some. c.in_default.ensures.waits;
    }

use Rattle.std.proofs.Common.{◌≡◌, ◌<◌, ◌≤◌, ◌+◌, ◌∙◌, ap, sym, length, arith}
use Rattle.std.specs.VecDeque.{deque_len}
use Rattle.hub.specs.Staging.{is_unserved, unserved}
use Rattle.hub.proofs.Staging.{first-left, passed-one, taken-out}
use Rattle.hub.proofs.dispatcher.Dispatcher.take_left.Goals as goal

-- the call at this place is the first that was not served
pub returns-then-is_left-clause-first : goal.returns-then-is_left-clause-first
returns-then-is_left-clause-first g c =
    let now = c.loop-at.self.calls in
    let count : deque_len now ≡ deque_len c.args.self.now.calls = ap deque_len c.loop-at.invariant.calls in
    let inside : c.loop-at.at < deque_len now = omega (arith, count, c.loop-at-test.true, c.len-at-end.ensures) in
    let within : c.loop-at.at < length now.items = omega (arith, inside, now.ok.0) in
    let is = rw c.unwrap-staged.ensures at c.remove.ensures.value in
    let removed = rw c.unwrap-staged.ensures at c.remove.ensures.items in
    let waits = ap is_unserved is ∙ sym (c.is_left.ensures c.unwrap-staged.result inside) ∙ c.if-is_left.true in
    let before : c.loop-at.self.served ≤ c.loop-at.at = omega (arith, c.loop-at.invariant.served, c.loop-at.auto.at) in
    taken-out c.args.self.now.calls.items now.items c.remove.new.self.items c.args.self.now.served c.loop-at.self.served c.loop-at.at c.unwrap-staged.result
    (ap (λ q. q.items) c.loop-at.invariant.calls) c.loop-at.invariant.served before within is c.loop-at.invariant.passed waits removed

pub returns-then-is_left-clause-left : goal.returns-then-is_left-clause-left
returns-then-is_left-clause-left g c =
    first-left c.args.self.now.served c.args.self.now.calls.items c.unwrap-staged.result.call c.remove.new.self.items (returns-then-is_left-clause-first g c)
    ∙ ap (λ n. unserved n c.remove.new.self.items + 1) (sym c.loop-at.invariant.served)

-- it was served, and the next one is looked at
pub loop-at-preserved : goal.loop-at-preserved
loop-at-preserved g c =
    let now = c.loop-at.self.calls in
    let count : deque_len now ≡ deque_len c.args.self.now.calls = ap deque_len c.loop-at.invariant.calls in
    let inside : c.loop-at.at < deque_len now = omega (arith, count, c.loop-at-test.true, c.len-at-end.ensures) in
    let within : c.loop-at.at < length now.items = omega (arith, inside, now.ok.0) in
    record {
      sent = c.loop-at.invariant.sent;
      calls = c.loop-at.invariant.calls;
      served = c.loop-at.invariant.served;
      queued = c.loop-at.invariant.queued;
      pool = c.loop-at.invariant.pool;
      ends = c.loop-at.invariant.ends;
      passed = passed-one now.items c.loop-at.at within (λ other. sym (c.is_left.ensures other inside) ∙ c.if-is_left.false) ∙ c.loop-at.invariant.passed;
    }

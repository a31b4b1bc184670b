use Rattle.std.proofs.Common.{◌≡◌, ◌<◌, arith, length, refl, ap, ◌∙◌}
use Rattle.std.proofs.Math.Seq.{map-set_same}
use Rattle.shard.specs.declared.shard.CallState.TheVariants.{Pending, Served}
use Rattle.shard.specs.Asked.{asked_by, asked_of}
use Rattle.shard.proofs.EventCounts.{notes_on, one_noted}
use Rattle.shard.proofs.Rounds.{passed_next, stays_on}
use Rattle.shard.proofs.shard.ShardState.serve_round.Goals as goal

-- the call at this place asks what it asked, and is left to the worker
pub loop-at-preserved-then-leaves : goal.loop-at-preserved-then-leaves
loop-at-preserved-then-leaves g c =
    let so_far = c.loop-at.invariant in
    let calls = c.loop-at.calls in
    let at = c.loop-at.at in
    let within : at < length calls.items = omega (arith, c.loop-at-test.true, c.len-at-end.ensures, so_far.1) in (
      so_far.0,
      so_far.1,
      so_far.2,
      map-set_same asked_by calls.items at _ c.in-Some.staged.now (ap asked_of c.leaves.ensures.call ∙ ap asked_by c.in-Some.ensures.value) ∙ so_far.3,
      passed_next c.args.self.now.partition c.args.self.now.parts calls.items at _ so_far.4 within (λ still. let left = c.if-leaves.ensures.left refl in cc (left.0, still.2)),
      so_far.5,
      so_far.6,
    )

-- or it was served, or refused
pub loop-at-preserved : goal.loop-at-preserved
loop-at-preserved g c =
    let so_far = c.loop-at.invariant in
    let calls = c.loop-at.calls in
    let at = c.loop-at.at in
    let e = c.serve-outcome.ensures in
    let within : at < length calls.items = omega (arith, c.loop-at-test.true, c.len-at-end.ensures, so_far.1) in (
      λ short. e.short (rw c.leaves.ensures.call (c.if-leaves.ensures.short refl)) (so_far.0 short),
      so_far.1,
      so_far.2,
      map-set_same asked_by calls.items at _ c.in-Some.staged.now (e.asked.0 ∙ ap asked_of c.leaves.ensures.call ∙ ap asked_by c.in-Some.ensures.value) ∙ so_far.3,
      passed_next c.args.self.now.partition c.args.self.now.parts calls.items at _ so_far.4 within (λ still. let served : Served c.serve-outcome.result ≡ Pending = still.2 in cc),
      stays_on so_far.5 e.stays,
      notes_on _ _ _ _ _ _ _ _ _ _ _ so_far.6 (one_noted _ _ _ _ _ _ c.serve-outcome.result _ _ _ _ _ _ e.refuses.no_tenant e.takes.taken e.takes.unchanged e.notes),
    )

use Rattle.std.proofs.Common.{◌≡◌, ◌+◌, ◌<◌, List, length, get_or, ap, ◌∙◌, arith}
use Rattle.version_chain.specs.declared.stamp_list.Kept.{Kept}
use Rattle.version_chain.proofs.Discarding.{none_dropped, one_dropped, all_dropped}
use Rattle.version_chain.proofs.Places.{held_few, places, places_long, place_in}
use Rattle.version_chain.proofs.chains.Chains.discard_at.Goals as goal
use Rattle.version_chain.proofs.chains.Chains.discard_at.Goals.{After-discard_slot-dropped}

pub loop-place-init : goal.loop-place-init
loop-place-init c = (none_dropped c.args.block.now c.args.self.now c.args.stamp c.requires.stands c.requires.run.list, omega arith)

pub tick-requires : goal.tick-requires
tick-requires c =
    let few = held_few c.args.block.now c.args.self.now c.requires.stands c.requires.run.list c.args.stamp c.requires.run.swept in
    omega (arith, c.loop-place-test.true, (places_long c.args.self.now c.args.stamp c.args.first c.args.end c.requires.run.run), few, c.requires.few, c.requires.before, c.loop-place.invariant.1)

pub overflow_add-dropped : goal.overflow_add-dropped
overflow_add-dropped c = omega (arith, c.discard_slot-dropped.ensures.given_up.used, c.loop-place.invariant.0.given_up.used, c.requires.few)

within : (c : After-discard_slot-dropped) → c.loop-place.place < length (places c.args.self.now c.args.stamp)
within c = omega (arith, c.loop-place-test.true, (places_long c.args.self.now c.args.stamp c.args.first c.args.end c.requires.run.run))

is : (c : After-discard_slot-dropped) → c.kept_in-slot.result ≡ get_or (places c.args.self.now c.args.stamp) c.loop-place.place c.kept_in-slot.result
is c =
    place_in c.args.self.now c.args.stamp c.args.first c.args.end c.requires.run.run c.loop-place.place c.kept_in-slot.result c.loop-place-test.true
    (c.kept_in-slot.ensures ∙ ap (λ (ks : List Kept). get_or ks (c.args.first + c.loop-place.place) c.kept_in-slot.result) c.loop-place.invariant.0.list)

pub loop-place-preserved : goal.loop-place-preserved
loop-place-preserved c =
    let at = (goal.at.loop-place-preserved c).After-discard_slot-dropped in
    let left = c.discard_slot-dropped.ensures in (
      one_dropped c.args.block.now c.loop-place.block c.discard_slot-dropped.new.block c.args.self.now c.loop-place.self c.discard_slot-dropped.new.self c.args.stamp c.loop-place.place c.loop-place.dropped c.discard_slot-dropped.result c.kept_in-slot.result
          c.loop-place.invariant.0 (within at) (is at) left.own left.stands left.left left.gone left.given_up left.dropped,
      omega (arith, c.tick.ensures, c.loop-place.invariant.1),
    )

pub returns : goal.returns
returns c =
    let was = c.loop-place.invariant.0 in
    let all = places_long c.args.self.now c.args.stamp c.args.first c.args.end c.requires.run.run in
    record {
      own = was.own;
      stands = was.stands;
      kept = all_dropped c.args.block.now c.loop-place.block c.args.self.now c.loop-place.self c.args.stamp c.loop-place.place c.loop-place.dropped was (omega (arith, all, c.loop-place-test.false));
      given_up = was.given_up;
      list = was.named;
      visits = omega (arith, c.loop-place.invariant.1, c.loop-place-test.false, c.loop-place.auto.place-end, all);
    }

use Rattle.std.proofs.Common.{◌+◌, length, ap, ◌∙◌, arith}
use Rattle.std.proofs.lemmas.List.{length_push}
use Rattle.prepare_commit.specs.declared.fill.StampedPlace.{StampedPlace}
use Rattle.prepare_commit.proofs.Filling.{numbered_more, all_named}
use Rattle.prepare_commit.proofs.fill.by_stamps.Goals as goal

pub loop-place-preserved : goal.loop-place-preserved
loop-place-preserved c =
    let so_far = c.loop-place.invariant in
    let pushed = c.push_reserved.ensures in (
      ap length pushed.items ∙ length_push c.loop-place.places.items _ ∙ ap (λ n. n + 1) so_far.0,
      numbered_more (λ (p : StampedPlace). p.place) c.loop-place.places.items c.push_reserved.new.self.items _ so_far.1 (omega (arith, so_far.0)) pushed.items,
      omega (arith, pushed.len, so_far.2),
      omega (arith, pushed.capacity, so_far.3),
    )

pub returns : goal.returns
returns c =
    let so_far = c.loop-place.invariant in
    all_named c.args.versions.now c.loop-place.places.items c.sort_unstable_by_key.new.self.items (omega (arith, c.loop-place-test.false, c.len-place-end.ensures.count, so_far.0, c.loop-place.auto.place-end)) so_far.1 c.sort_unstable_by_key.ensures.permutation

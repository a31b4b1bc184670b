use Rattle.std.proofs.Common.{◌<◌, length, arith}
use Rattle.std.proofs.lemmas.Option.{slice_get-get_or}
use Rattle.closed_store.specs.Counting.{IsCountedWith}
use Rattle.closed_store.proofs.Below.{done_none, done_more, done_all}
use Rattle.closed_store.proofs.Added.{is_counted}
use Rattle.closed_store.proofs.join.adding.add_counts.Goals as goal

pub loop-place-init : goal.loop-place-init
loop-place-init c = done_none (IsCountedWith c.args.given.now) c.args.counts.now

pub loop-place-preserved : goal.loop-place-preserved
loop-place-preserved c =
    let within : c.loop-place.place < length c.loop-place.counts = omega arith in
    done_more (IsCountedWith c.args.given.now) c.args.counts.now c.loop-place.counts c.loop-place.place _ c.add.new.counts within
    (slice_get-get_or c.loop-place.counts c.loop-place.place _ within)
    (is_counted c.args.given.now c.loop-place.place _ c.counts_of-more.result c.add.new.counts
    c.counts_of-more.ensures.seats c.counts_of-more.ensures.collector c.add.ensures.seats c.add.ensures.collector)
    c.loop-place.invariant

pub returns : goal.returns
returns c = record {
  each = done_all (IsCountedWith c.args.given.now) c.args.counts.now c.loop-place.counts c.loop-place.place c.loop-place-test.false c.loop-place.invariant;
  as_many = c.loop-place.auto.counts;
}

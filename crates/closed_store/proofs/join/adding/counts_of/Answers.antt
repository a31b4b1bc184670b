use Rattle.std.proofs.Common.{ap, ◌∙◌, List, ℕ, eq-eqb, take_all}
use Rattle.std.proofs.lemmas.Bool.{ne_eqb}
use Rattle.partition.specs.declared.book.Counts.{Counts}
use Rattle.partition.specs.declared.journal.Epoch.{Epoch}
use Rattle.partition.specs.Accounts.{is_of_seat, is_of_collector}
use Rattle.closed_store.specs.Counting.{counted_with, events_given}
use Rattle.closed_store.proofs.Added.{counted_one, counted_none}
use Rattle.closed_store.proofs.join.adding.counts_of.Goals as goal
use Rattle.closed_store.proofs.join.adding.counts_of.Goals.{then-partition-place, else-partition-place}

pub loop-partition-preserved : goal.loop-partition-preserved
loop-partition-preserved c =
    let given = c.args.given.now in
    let k = c.loop-partition.partition-index in
    let g = c.loop-partition-item.result in
    let within = c.loop-partition-test.true in
    let is = c.loop-partition-item.is in
    let old = c.loop-partition.counts in
    let new = c.if-partition-place.counts in
    elim c.if-partition-place.branch [
      | then-partition-place w ↦
          let its = eq-eqb g.0 c.args.place w.if-partition-place.true in (
            counted_one given k g within is is_of_seat c.args.place old.of_seats new.of_seats its c.loop-partition.invariant.0
                (ap (λ (x : Counts). x.of_seats) w.counts-is ∙ w.add.ensures.seats
                ∙ ap (counted_with old.of_seats) w.of_seats.ensures),
            counted_one given k g within is is_of_collector c.args.place old.of_collector new.of_collector its c.loop-partition.invariant.1
                (ap (λ (x : Counts). x.of_collector) w.counts-is ∙ w.add.ensures.collector
                ∙ ap (counted_with old.of_collector) w.of_collector.ensures),
          )
      | else-partition-place w ↦
          let apart = ne_eqb g.0 c.args.place w.if-partition-place.false in (
            counted_none given k g within is is_of_seat c.args.place new.of_seats apart (ap (λ (x : Counts). x.of_seats) w.counts-is ∙ c.loop-partition.invariant.0),
            counted_none given k g within is is_of_collector c.args.place new.of_collector apart (ap (λ (x : Counts). x.of_collector) w.counts-is ∙ c.loop-partition.invariant.1),
          )
    ]

pub returns : goal.returns
returns c =
    let all = take_all c.loop-partition.partition-index c.args.given.now c.loop-partition-test.false in
    record {
      seats = c.loop-partition.invariant.0 ∙ ap (λ (gs : List (ℕ × ℕ × Epoch)). counted_with 0 (events_given is_of_seat gs c.args.place)) all;
      collector = c.loop-partition.invariant.1 ∙ ap (λ (gs : List (ℕ × ℕ × Epoch)). counted_with 0 (events_given is_of_collector gs c.args.place)) all;
    }

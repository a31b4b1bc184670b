use Rattle.std.proofs.Common.{ℕ, ◌+◌, ◌<◌, length, nat_eq, eq-eqb, sym, ap, ◌∙◌, arith}
use Rattle.std.proofs.lemmas.Bool.{ne_eqb}
use Rattle.partition.proofs.Counted.{counted_yes, counted_no}
use Rattle.partition.proofs.event_list.EventList.of_collector.Goals as goal
use Rattle.partition.proofs.event_list.EventList.of_collector.Goals.{then-seat-eq0, else-seat-eq0}

pub loop-at-preserved : goal.loop-at-preserved
loop-at-preserved c =
    let events = c.args.self.now.items in
    let at = c.loop-at.at in
    let within : at < length events = omega (arith, c.loop-at-test.true, c.len-at-end.ensures.count) in
    elim c.if-seat-eq0.branch [
      | then-seat-eq0 w ↦ record {
        counted = w.count-is ∙ ap (λ (n : ℕ). n + 1) c.loop-at.invariant.counted ∙ sym (counted_yes (λ (s : ℕ). nat_eq s 0) events at c.seat.result within c.seat.ensures (eq-eqb c.seat.result 0 w.if-seat-eq0.true));
        few = omega (arith, w.count-is, c.loop-at.invariant.few);
        within = omega (arith, within);
      }
      | else-seat-eq0 w ↦ record {
        counted = w.count-is ∙ c.loop-at.invariant.counted ∙ sym (counted_no (λ (s : ℕ). nat_eq s 0) events at c.seat.result within c.seat.ensures (ne_eqb c.seat.result 0 w.if-seat-eq0.false));
        few = omega (arith, w.count-is, c.loop-at.invariant.few);
        within = omega (arith, within);
      }
    ]

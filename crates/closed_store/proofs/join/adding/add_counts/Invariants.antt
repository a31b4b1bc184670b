use Rattle.closed_store.proofs.Below.{AreDone}
use Rattle.closed_store.specs.Counting.{IsCountedWith}
use Rattle.closed_store.proofs.join.adding.add_counts.Given as goal

abbrev pub invariant-loop-place : goal.invariant-loop-place
invariant-loop-place l = AreDone (IsCountedWith l.given) l.initial.counts l.counts l.place

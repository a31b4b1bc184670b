use Rattle.std.proofs.Common.{◌≡◌, ◌≤◌, ℕ, length}
use Rattle.std.specs.Prelude.{slice_get}
use Rattle.closed_store.proofs.Below.{AreDone}
use Rattle.closed_store.proofs.Filled.{HasList}
use Rattle.closed_store.proofs.join.filling.put_all.Given as goal

-- those so far are filled, and the lists of the others are still there
abbrev pub invariant-loop-place : goal.invariant-loop-place
invariant-loop-place l = record {
  done : AreDone (HasList l.initial.lists.items) l.initial.transcripts l.transcripts l.place;
  lists : (other : ℕ) → l.place ≤ other → slice_get l.lists.items other ≡ slice_get l.initial.lists.items other;
  as_many : length l.lists.items ≡ length l.initial.lists.items;
}

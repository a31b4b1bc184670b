use Rattle.closed_store.specs.Filling.{AreFirstPlaces}
use Rattle.closed_store.proofs.join.filling.places_of.Given as goal

-- the first of each seat so far
abbrev pub invariant-loop-place : goal.invariant-loop-place
invariant-loop-place l = AreFirstPlaces l.transcripts l.place l.places

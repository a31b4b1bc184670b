use Rattle.std.proofs.Common.{◌≡◌, ◌<◌, ◌≤◌, ℕ, length, get_or, vec_len, vec_capacity}
use Rattle.prepare_commit.specs.declared.fill.StampedPlace.{StampedPlace}
use Rattle.prepare_commit.proofs.fill.by_stamps.Given as goal

-- each place so far stands at its number
abbrev pub invariant-loop-place : goal.invariant-loop-place
invariant-loop-place l =
    (length l.places.items ≡ l.place) × ((k : ℕ) (d : StampedPlace) → k < length l.places.items → (get_or l.places.items k d).place ≡ k)
    × (vec_len l.places ≡ l.place) × (length l.versions ≤ vec_capacity l.places)

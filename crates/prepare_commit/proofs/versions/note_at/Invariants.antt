use Rattle.std.proofs.Common.{◌≡◌, ℕ, ◌||◌, false, get_or, length}
use Rattle.version_chain.proofs.Places.{places}
use Rattle.prepare_commit.proofs.EachPlace.{is_done}
use Rattle.prepare_commit.proofs.versions.note_at.Given as goal

abbrev pub invariant-loop-place : goal.invariant-loop-place
invariant-loop-place l =
    (length l.since ≡ length l.fn.since)
    × ((chain : ℕ) → get_or l.since chain false ≡ (get_or l.fn.since chain false || is_done l.block (places l.chains l.fn.stamp) l.place chain))

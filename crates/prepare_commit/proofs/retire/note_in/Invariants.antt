use Rattle.std.proofs.Common.{◌≡◌, ◌+◌, ◌≤◌, ℕ, false, count_by, get_or}
use Rattle.prepare_commit.specs.Begun.{IsLeft, NotesMore, kept_in}
use Rattle.prepare_commit.proofs.retire.note_in.Given as goal

abbrev pub invariant-loop-chain : goal.invariant-loop-chain
invariant-loop-chain l =
    NotesMore l.fn.since l.since × IsLeft l.spots l.since l.chain l.part
    × (count_by (λ b. b) l.since + l.left ≡ count_by (λ b. b) l.fn.since + 512)
    × (kept_in l.spots l.fn.since l.chain l.part + l.left ≡ 512)
    × ((n : ℕ) → l.chain ≤ n → get_or l.since n false ≡ get_or l.fn.since n false)

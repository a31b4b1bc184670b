use Rattle.std.proofs.Common.{◌≡◌, ◌<◌, vec_len, vec_capacity}
use Rattle.secondary_index.proofs.tag_index.note.Given as goal

abbrev pub invariant-loop-filled : goal.invariant-loop-filled
invariant-loop-filled l = (vec_len l.places ≡ l.filled) × (l.number < vec_capacity l.places)

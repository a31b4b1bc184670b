use Rattle.std.proofs.Common.{◌≡◌, ℕ, ◌<◌, true, get_or}
use Rattle.stamps.specs.Text.{is_visible_byte}
use Rattle.line_protocol.proofs.word.short_visible_len.Given as goal

-- each byte so far passes
abbrev pub invariant-loop-at : goal.invariant-loop-at
invariant-loop-at l = (k : ℕ) → k < l.at → is_visible_byte (get_or l.text k 0) ≡ true

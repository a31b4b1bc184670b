use Rattle.std.proofs.Common.{◌≡◌, ◌+◌, ◌≤◌, length}
use Rattle.std.specs.List.{prefix_len}
use Rattle.stamps.specs.Text.{is_visible_byte}
use Rattle.line_protocol.proofs.word.visible_len.Given as goal

-- what was passed over goes on with the rest
abbrev pub invariant-loop-bytes : goal.invariant-loop-bytes
invariant-loop-bytes l = record {
  shorter : length l.rest ≤ length l.text;
  is_len : prefix_len is_visible_byte l.text + length l.rest ≡ length l.text + prefix_len is_visible_byte l.rest;
}

abbrev pub decreases-loop-bytes : goal.decreases-loop-bytes
decreases-loop-bytes l = length l.rest

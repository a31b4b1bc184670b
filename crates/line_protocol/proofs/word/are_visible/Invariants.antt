use Rattle.std.proofs.Common.{◌≡◌, take}
use Rattle.std.specs.List.{list_all}
use Rattle.stamps.specs.Text.{is_visible_byte}
use Rattle.line_protocol.proofs.word.are_visible.Given as goal

-- so of the bytes so far
abbrev pub invariant-loop-byte : goal.invariant-loop-byte
invariant-loop-byte l = l.are_visible ≡ list_all is_visible_byte (take l.byte-index l.bytes)

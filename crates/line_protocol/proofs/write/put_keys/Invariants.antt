use Rattle.std.proofs.Common.{◌≤◌, ◌*◌, length, take}
use Rattle.stamps.specs.Limits.{max_keys}
use Rattle.line_protocol.specs.Room.{Appends}
use Rattle.line_protocol.specs.Spelling.{keys_text}
use Rattle.line_protocol.proofs.Appending.{parted_key_room}
use Rattle.line_protocol.proofs.write.put_keys.Given as goal

abbrev pub invariant-loop-i : goal.invariant-loop-i
invariant-loop-i l = record {
  few : length l.key-items ≤ max_keys;
  written : Appends (parted_key_room * l.i) l.fn.out l.out (keys_text (take l.i l.key-items));
}

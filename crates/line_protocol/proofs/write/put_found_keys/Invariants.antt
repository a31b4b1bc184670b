use Rattle.std.proofs.Common.{◌≤◌, ◌*◌, length, take}
use Rattle.stamps.specs.Limits.{max_keys}
use Rattle.line_protocol.specs.Room.{Appends}
use Rattle.line_protocol.specs.Spelling.{found_keys_text}
use Rattle.line_protocol.proofs.Appending.{parted_key_room}
use Rattle.line_protocol.proofs.write.put_found_keys.Given as goal

abbrev pub invariant-loop-key : goal.invariant-loop-key
invariant-loop-key l = record {
  few : length l.key-items ≤ max_keys;
  written : Appends (parted_key_room * l.key-index) l.fn.out l.out (found_keys_text (take l.key-index l.key-items));
}

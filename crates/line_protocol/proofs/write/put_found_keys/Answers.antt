use Rattle.std.proofs.Common.{◌+◌, ◌*◌, ◌∷◌, ◌++◌, take, arith}
use Rattle.line_protocol.specs.Spelling.{found_keys_text}
use Rattle.line_protocol.proofs.Appending.{Appends-trans, Appends-parted, parted_key_room, Appends-at_most, found_keys_text-push}
use Rattle.line_protocol.proofs.write.put_found_keys.Goals as goal

pub loop-key-preserved : goal.loop-key-preserved
loop-key-preserved c =
    let keys = c.keys-key-items.result.now in
    let i = c.loop-key.key-index in
    let key = c.key-item.result in
    let text = found_keys_text (take i keys) in
    record {
      few = c.loop-key.invariant.few;
      written = Appends-at_most (parted_key_room * i + parted_key_room) (parted_key_room * (i + 1)) c.args.out.now c.put_key.new.out (text ++ 32 ∷ key) (found_keys_text (take (i + 1) keys)) (omega arith)
          (found_keys_text-push keys i key c.loop-key-test.true c.key-item.is)
          (Appends-trans (parted_key_room * i) parted_key_room c.args.out.now c.loop-key.out c.put_key.new.out text (32 ∷ key) c.loop-key.invariant.written (Appends-parted 32 c.loop-key.out c.put.new.out c.put_key.new.out key c.put.ensures c.put_key.ensures));
    }

use Rattle.std.proofs.Common.{◌+◌, ◌*◌, [], ◌∷◌, ◌++◌, take, arith, sym, subst}
use Rattle.bytes.specs.Filled.{Filled}
use Rattle.line_protocol.specs.Room.{Appends, key_room}
use Rattle.line_protocol.specs.Spelling.{keys_text}
use Rattle.line_protocol.proofs.Appending.{first_key_text, later_key_text, Appends-trans, Appends-parted, parted_key_room, Appends-at_most}
use Rattle.line_protocol.proofs.write.put_keys.Goals as goal
use Rattle.line_protocol.proofs.write.put_keys.Goals.{then-i-gt0, else-i-gt0}

pub loop-i-preserved : goal.loop-i-preserved
loop-i-preserved c =
    let keys = c.as_slice-key-items.result.now in
    let i = c.loop-i.i in
    let key = c.key-item.result in
    let text = keys_text (take i keys) in
    let longer = keys_text (take (i + 1) keys) in
    let before = c.args.out.now in
    let now = c.loop-i.out in
    let new = c.put_key.new.out in
    record {
      few = c.loop-i.invariant.few;
      written = elim c.if-i-gt0.branch [
        | then-i-gt0 w ↦
            let comma = subst (λ (o : Filled). Appends 1 now o (44 ∷ [])) (sym w.out-is) w.put.ensures in
            Appends-at_most (parted_key_room * i + parted_key_room) (parted_key_room * (i + 1)) before new (text ++ 44 ∷ key) longer (omega arith)
            (later_key_text keys i key c.loop-i-test.true c.key-item.is w.if-i-gt0.true)
            (Appends-trans (parted_key_room * i) parted_key_room before now new text (44 ∷ key) c.loop-i.invariant.written (Appends-parted 44 now c.if-i-gt0.out new key comma c.put_key.ensures))
        | else-i-gt0 w ↦
            let key_put = subst (λ (o : Filled). Appends key_room o new key) w.out-is c.put_key.ensures in
            Appends-at_most (parted_key_room * i + key_room) (parted_key_room * (i + 1)) before new (text ++ key) longer (omega arith)
            (first_key_text keys i key c.loop-i-test.true c.key-item.is (let le = w.if-i-gt0.false in omega arith))
            (Appends-trans (parted_key_room * i) key_room before now new text key c.loop-i.invariant.written key_put)
      ];
    }

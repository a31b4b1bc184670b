use Rattle.std.proofs.Common.{List, [], ◌∷◌, ◌++◌, ap, ◌∙◌}
use Rattle.std.specs.Option.{option_map}
use Rattle.stamps.specs.declared.record.Item.{Item}
use Rattle.line_protocol.proofs.WordLaws.{item_read, no_item_key, no_item_tag, no_item_value}
use Rattle.line_protocol.proofs.step_line.ItemWord.take.Goals as goal

pub returns-in_err-key : goal.returns-in_err-key
returns-in_err-key c = rw c.from_residual.ensures (no_item_key c.args.text.now c.in_err-key.ensures)

pub returns-in_default : goal.returns-in_default
returns-in_default c =
    let key = c.in_ok-key.ensures in no_item_tag c.args.text.now c.in_ok-key.key.now c.in_ok-key.after.now key.0 key.1 key.2 c.in_default.ensures

pub returns-in_err-value : goal.returns-in_err-value
returns-in_err-value c =
    let key = c.in_ok-key.ensures in
    let tag = c.in-Some.ensures in
    rw c.from_residual-in_err-value.ensures
    (no_item_value c.args.text.now c.in_ok-key.key.now c.in_ok-key.after.now _ _ key.0 key.1 key.2 tag.0 tag.1 tag.2 c.in_err-value.ensures)

pub returns-in-Err : goal.returns-in-Err
returns-in-Err c =
    let key = c.in_ok-key.ensures in
    let tag = c.in-Some.ensures in
    let value = c.in_ok-value.ensures in
    let read = item_read c.args.text.now c.in_ok-key.key.now c.in_ok-key.after.now _ _ c.in_ok-value.value.now (option_map (λ t. t.now) c.in_ok-value.rest) key.0 key.1 tag.0 tag.1 value.0 value.1 in
    (_, read.0, read.1, tt)

pub returns : goal.returns
returns c =
    let key = c.in_ok-key.ensures in
    let tag = c.in-Some.ensures in
    let value = c.in_ok-value.ensures in
    let room = c.in_default-make_room.ensures in
    let item : Item = record { key = c.of_stored.result; tag = c.in-Some.tagged.0; value = c.of_stored-2.result } in
    let read = item_read c.args.text.now c.in_ok-key.key.now c.in_ok-key.after.now _ _ c.in_ok-value.value.now (option_map (λ t. t.now) c.in_ok-value.rest) key.0 key.1 tag.0 tag.1 value.0 value.1 in
    (item, rw (c.of_stored.ensures, c.of_stored-2.ensures) read.0, read.1, (room.0, c.push_reserved.ensures.items ∙ ap (λ (items : List Item). items ++ item ∷ []) room.2))

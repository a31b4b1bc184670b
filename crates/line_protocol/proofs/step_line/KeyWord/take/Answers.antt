use Rattle.std.proofs.Common.{ℕ, List, [], ◌∷◌, ◌++◌, ap, ◌∙◌}
use Rattle.std.specs.Option.{option_map}
use Rattle.line_protocol.proofs.WordLaws.{key_read, no_key_read, no_key_end}
use Rattle.line_protocol.proofs.step_line.KeyWord.take.Goals as goal

pub returns-in_err-key : goal.returns-in_err-key
returns-in_err-key c = rw c.from_residual.ensures (no_key_read c.args.text.now c.in_err-key.ensures)

pub returns-in_err-rest : goal.returns-in_err-rest
returns-in_err-rest c =
    let key = c.in_ok-key.ensures in
    rw c.from_residual-in_err-rest.ensures (no_key_end c.args.text.now c.in_ok-key.key.now c.in_ok-key.after.now key.0 key.1 key.2 c.in_err-rest.ensures)

pub returns-in-Err : goal.returns-in-Err
returns-in-Err c =
    let key = c.in_ok-key.ensures in
    let read = key_read c.args.text.now c.in_ok-key.key.now c.in_ok-key.after.now (option_map (λ t. t.now) c.in_ok-rest.rest) key.0 key.1 c.in_ok-rest.ensures in
    (_, read.0, read.1, tt)

pub returns : goal.returns
returns c =
    let key = c.in_ok-key.ensures in
    let room = c.in_default.ensures in
    let read = key_read c.args.text.now c.in_ok-key.key.now c.in_ok-key.after.now (option_map (λ t. t.now) c.in_ok-rest.rest) key.0 key.1 c.in_ok-rest.ensures in
    (c.of_stored.result, rw c.of_stored.ensures read.0, read.1, (room.0, c.push_reserved.ensures.items ∙ ap (λ (keys : List (List ℕ)). keys ++ c.of_stored.result ∷ []) room.2))

use Rattle.std.proofs.Common.{List, ℕ, ◌∷◌, ◌++◌, ap, ◌∙◌, take, drop, arith}
use Rattle.std.proofs.lemmas.List.Sums.{prefix_len-le-length}
use Rattle.stamps.specs.Limits.{max_value_len}
use Rattle.stamps.specs.Text.{is_visible_byte}
use Rattle.line_protocol.proofs.WordLaws.{run_text, run_ends, no_value, value_end}
use Rattle.line_protocol.proofs.word.split_value.Goals as goal

pub returns-then-len-gt-MAX_LEN : goal.returns-then-len-gt-MAX_LEN
returns-then-len-gt-MAX_LEN c =
    λ value rest is e. no_value c.args.text.now c.in_ok-after.after.now value rest c.in_ok-after.ensures is e (omega (arith, c.visible_len-len.ensures, c.if-len-gt-MAX_LEN.true))

pub split_at-requires : goal.split_at-requires
split_at-requires c = rw c.visible_len-len.ensures (prefix_len-le-length is_visible_byte c.in_ok-after.after.now)

pub returns-in_err-split_end : goal.returns-in_err-split_end
returns-in_err-split_end c =
    let after = c.in_ok-after.after.now in
    let len = c.visible_len-len.ensures in
    let front = c.split_at.ensures.front ∙ ap (λ (k : ℕ). take k after) len in
    let back = c.split_at.ensures.back ∙ ap (λ (k : ℕ). drop k after) len in
    let is_front = run_text is_visible_byte 0 max_value_len after c.split_at.result.0.now (omega arith) (omega (arith, len, c.if-len-gt-MAX_LEN.false)) front in
    rw c.from_residual-in_err-split_end.ensures (λ value rest is e. c.in_err-split_end.ensures rest
    (value_end c.args.text.now after c.split_at.result.0.now c.split_at.result.1.now value rest c.in_ok-after.ensures c.split_at.ensures.by_index.0 is_front (rw back (run_ends is_visible_byte after)) is e))

pub returns : goal.returns
returns c =
    let after = c.in_ok-after.after.now in
    let len = c.visible_len-len.ensures in
    let front = c.split_at.ensures.front ∙ ap (λ (k : ℕ). take k after) len in (
      run_text is_visible_byte 0 max_value_len after c.split_at.result.0.now (omega arith) (omega (arith, len, c.if-len-gt-MAX_LEN.false)) front,
      c.in_ok-after.ensures
          ∙ ap (λ (t : List ℕ). 61 ∷ t) (c.split_at.ensures.by_index.0 ∙ ap (λ (t : List ℕ). c.split_at.result.0.now ++ t) c.in_ok-split_end.ensures),
    )

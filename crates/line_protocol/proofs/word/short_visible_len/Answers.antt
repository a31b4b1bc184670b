use Rattle.std.proofs.Common.{sym, ◌∙◌, arith}
use Rattle.std.proofs.lemmas.List.Sums.{prefix_len_is}
use Rattle.stamps.specs.Text.{is_visible_byte}
use Rattle.line_protocol.proofs.word.short_visible_len.Goals as goal

pub returns-then-not-is_visible_byte : goal.returns-then-not-is_visible_byte
returns-then-not-is_visible_byte c =
    sym (prefix_len_is is_visible_byte c.args.text.now c.loop-at.at 0 (let lt = c.loop-at-test.true in omega arith) c.loop-at.invariant (λ lt. sym c.is_visible_byte.ensures ∙ c.if-not-is_visible_byte.true))

pub returns : goal.returns
returns c =
    let end = c.loop-at-test.false in
    sym (prefix_len_is is_visible_byte c.args.text.now _ 0 (omega arith) (λ k lt. c.loop-at.invariant k (omega arith)) (λ lt. absurd (omega arith)))

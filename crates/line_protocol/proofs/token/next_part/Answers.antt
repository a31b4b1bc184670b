use Rattle.std.proofs.Common.{refl, ◌+◌, arith, add-one}
use Rattle.std.proofs.lemmas.List.{take_rest}
use Rattle.line_protocol.specs.Reading.{part_at}
use Rattle.line_protocol.proofs.Splits.{split_first-none, split_first-some}
use Rattle.line_protocol.proofs.token.next_part.Goals as goal

pub returns-in-None : goal.returns-in-None
unfolding part_at
returns-in-None c = rw (split_first-none c.args.byte c.args.text.now (λ k lt e. c.in-None.ensures k (omega arith) lt e)) refl

pub returns-in-Some : goal.returns-in-Some
unfolding part_at
returns-in-Some c =
    let h = c.in-Some.ensures in
    rw (take_rest c.args.text.now (c.in-Some.at + 1), add-one, split_first-some c.args.byte c.args.text.now c.in-Some.at h.0.high (λ k lt e. h.0.before k (omega arith) lt e) h.1) refl

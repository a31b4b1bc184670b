use Rattle.std.proofs.Common.{ℕ, ◌<◌, ◌≤◌, ◌⊎◌, inl, inr, take, drop, ap, ◌∙◌, arith}
use Rattle.std.specs.List.{prefix_len}
use Rattle.std.proofs.lemmas.List.Sums.{prefix_len-le-length}
use Rattle.stamps.specs.Limits.{max_key_len}
use Rattle.stamps.specs.Text.{is_name_byte}
use Rattle.line_protocol.proofs.WordLaws.{run_text, run_ends, no_run}
use Rattle.line_protocol.proofs.word.split_key.Goals as goal
use Rattle.line_protocol.proofs.word.split_key.Goals.{then-len-eq0-via-then-len-eq0, then-len-eq0-via-else-len-eq0+then-len-gt-MAX_LEN}

pub returns-then-len-eq0 : goal.returns-then-len-eq0
returns-then-len-eq0 c =
    let n = prefix_len is_name_byte c.args.text.now in
    let is = c.name_len-len.ensures in
    let out : (n < 1) ⊎ (max_key_len < n) = elim c.then-len-eq0.branch [
      | then-len-eq0-via-then-len-eq0 w ↦ inl (omega (arith, is, w.if-len-eq0.true))
      | then-len-eq0-via-else-len-eq0+then-len-gt-MAX_LEN w ↦ inr (omega (arith, is, w.if-len-gt-MAX_LEN.true))
    ] in
    λ key after is_key ends e. no_run is_name_byte 1 max_key_len c.args.text.now key after is_key ends e out

pub split_at-requires : goal.split_at-requires
split_at-requires c = rw c.name_len-len.ensures (prefix_len-le-length is_name_byte c.args.text.now)

pub returns : goal.returns
returns c =
    let n = prefix_len is_name_byte c.args.text.now in
    let is = c.name_len-len.ensures in
    let low : 1 ≤ n = omega (arith, is, c.if-len-eq0.false) in
    let high : n ≤ max_key_len = omega (arith, is, c.if-len-gt-MAX_LEN.false) in
    let front = c.split_at.ensures.front ∙ ap (λ (k : ℕ). take k c.args.text.now) is in
    let back = c.split_at.ensures.back ∙ ap (λ (k : ℕ). drop k c.args.text.now) is in
    (run_text is_name_byte 1 max_key_len c.args.text.now _ low high front, c.split_at.ensures.by_index.0, rw back (run_ends is_name_byte c.args.text.now))

use Rattle.std.proofs.Common.{ℕ, ◌<◌, ◌≤◌, ◌⊎◌, inl, inr, length, take, drop, ap, ◌∙◌, arith}
use Rattle.std.specs.List.{prefix_len}
use Rattle.std.proofs.lemmas.List.Sums.{prefix_len-le-length}
use Rattle.stamps.specs.Limits.{max_tag_len}
use Rattle.stamps.specs.Text.{is_name_byte}
use Rattle.line_protocol.proofs.WordLaws.{run_text, run_ends, no_tag, tag_split}
use Rattle.line_protocol.proofs.word.split_tag.Goals as goal
use Rattle.line_protocol.proofs.word.split_tag.Goals.{then-len-eq0-via-then-len-eq0, then-len-eq0-via-else-len-eq0+then-len-gt-MAX_LEN}

pub returns-then-len-eq0 : goal.returns-then-len-eq0
returns-then-len-eq0 c =
    let after = c.in-Some.after.now in
    let n = prefix_len is_name_byte after in
    let is = c.name_len-len.ensures in
    let out : (n < 1) ⊎ (max_tag_len < n) = elim c.then-len-eq0.branch [
      | then-len-eq0-via-then-len-eq0 w ↦ inl (omega (arith, is, w.if-len-eq0.true))
      | then-len-eq0-via-else-len-eq0+then-len-gt-MAX_LEN w ↦ inr (omega (arith, is, w.if-len-gt-MAX_LEN.true))
    ] in
    λ tag behind is_tag e. no_tag c.args.text.now after tag behind c.in-Some.ensures is_tag e out

pub split_at-requires : goal.split_at-requires
split_at-requires c = rw c.name_len-len.ensures (prefix_len-le-length is_name_byte c.in-Some.after.now)

pub of_stored-requires-2 : goal.of_stored-requires-2
of_stored-requires-2 c =
    let after = c.in-Some.after.now in
    let is = c.name_len-len.ensures in
    run_text is_name_byte 0 max_tag_len after _ (omega arith) (omega (arith, is, c.if-len-gt-MAX_LEN.false)) (c.split_at.ensures.front ∙ ap (λ (k : ℕ). take k after) is)

pub returns : goal.returns
returns c =
    let after = c.in-Some.after.now in
    let is = c.name_len-len.ensures in
    let tag = c.split_at.ensures.front ∙ ap (λ (k : ℕ). take k after) is in
    let behind = c.split_at.ensures.back ∙ ap (λ (k : ℕ). drop k after) is in
    let is_tag = run_text is_name_byte 0 max_tag_len after c.split_at.result.0.now (omega arith) (omega (arith, is, c.if-len-gt-MAX_LEN.false)) tag in
    let some : 1 ≤ length c.split_at.result.0.now = omega (arith, c.split_at.ensures.front_len, c.if-len-eq0.false) in
    let split = tag_split c.args.text.now after c.split_at.result.0.now c.split_at.result.1.now c.in-Some.ensures c.split_at.ensures.by_index.0 some (rw behind (run_ends is_name_byte after)) in
    rw c.of_stored-2.ensures (is_tag, split.0, split.1)

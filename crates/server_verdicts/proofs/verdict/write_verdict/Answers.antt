use Rattle.std.proofs.Common.{◌++◌, ap, subst, ◌∙◌}
use Rattle.std.specs.Io.KnownBytes.{Appends}
use Rattle.server_verdicts.proofs.verdict.write_verdict.Goals as goal

pub returns-clause-ok : goal.returns-clause-ok
returns-clause-ok g c =
    let begins = c.in_ok-extend_from_slice.ensures.items ∙ ap (λ t. t ++ c.as_bytes.result.now) c.in_ok-line.ensures.items ∙ ap (λ t. c.args.word.now ++ t) c.as_bytes.ensures.bytes in
    let is = c.as_slice.ensures.value ∙ c.in_ok-extend_from_slice-2.ensures.items ∙ ap (λ t. t ++ c.verdict_word.result.now) begins ∙ ap (λ t. (c.args.word.now ++ c.args.name) ++ t) c.verdict_word.ensures in
    subst (Appends (g.W.Write.contents c.args.writer.now) (g.W.Write.contents c.write_text.new.writer)) is c.in_ok-write_text.ensures.ok

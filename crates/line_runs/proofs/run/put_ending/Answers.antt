use Rattle.std.proofs.Common.{rules, ◌≡◌, ◌++◌, ap, ◌∙◌}
use Rattle.plain_store.specs.declared.refusal.Refusal.{Refusal}
use Rattle.plain_store.specs.Numbers.{number_of}
use Rattle.line_protocol.specs.Stream.{terminated}
use Rattle.line_protocol.specs.Spelling.{refused_text}
use Rattle.line_runs.proofs.run.put_ending.Goals as goal
use Rattle.line_runs.proofs.run.put_ending.Goals.{in-TooLong, in-Cut}

pub returns : goal.returns
returns c =
    let written : c.write_refusal.new.out.items ≡ c.args.out.now.items ++ terminated (refused_text (number_of c.match-end.refusal)) = search rules in
    elim c.match-end.branch [
      | in-TooLong w ↦ rw w.in-TooLong.is (written ∙ ap (λ (r : Refusal). c.args.out.now.items ++ terminated (refused_text (number_of r))) w.refusal-is)
      | in-Cut w ↦ rw w.in-Cut.is (written ∙ ap (λ (r : Refusal). c.args.out.now.items ++ terminated (refused_text (number_of r))) w.refusal-is)
    ]

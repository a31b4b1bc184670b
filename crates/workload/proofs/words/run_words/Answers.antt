use Rattle.std.proofs.Common.{sym, ◌∙◌}
use Rattle.workload.proofs.Outcomes.{no_zero}
use Rattle.workload.proofs.words.run_words.Goals as goal

pub returns-in-Err-clause-quiet : goal.returns-in-Err-clause-quiet
returns-in-Err-clause-quiet g c = λ none. absurd (no_zero c.in-Err.fault (sym c.report.ensures ∙ none))

use Rattle.std.proofs.Common.{ap, ◌∙◌}
use Rattle.std.proofs.lemmas.Result.{IfOk-weaker}
use Rattle.clap.specs.Words.{App}
use Rattle.clap.specs.Simple.{app_of_fields}
use Rattle.command_line.specs.Words.{cell_rules, with_rules}
use Rattle.command_line.proofs.command.cell_command.Goals as goal

pub returns : goal.returns
returns c =
    let begun = ap app_of_fields c.after_help-cell.ensures ∙ ap app_of_fields c.about.ensures ∙ c.new.ensures.app in
    IfOk-weaker c.with_numbers.result _ _ (λ command knows. record { words = knows.words ∙ ap (λ (app : App). with_rules app cell_rules) begun; local = knows.local }) c.with_numbers.ensures

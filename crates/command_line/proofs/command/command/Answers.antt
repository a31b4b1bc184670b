use Rattle.std.proofs.Common.{◌≡◌, ap, codes, ◌∙◌}
use Rattle.std.proofs.lemmas.Result.{IfOk-weaker}
use Rattle.clap.specs.Words.{app_of, new_app}
use Rattle.clap.specs.Simple.{app_of_fields}
use Rattle.command_line.specs.Words.{cell_command, load_command, serve_command, sim_command, with_required, with_version}
use Rattle.command_line.proofs.KnownWords.{knows_command}
use Rattle.command_line.proofs.command.command.Goals as goal

pub returns : goal.returns
returns c =
    let empty : app_of c.version.result ≡ with_version (new_app (codes "ramp")) = ap app_of_fields c.version.ensures ∙ ap with_version c.new.ensures.app in
    let named : app_of c.after_help.result ≡ with_version (new_app (codes "ramp")) = ap app_of_fields c.after_help.ensures ∙ ap app_of_fields c.about.ensures ∙ empty in
    let top : app_of c.subcommand_required.result ≡ with_required (with_version (new_app (codes "ramp"))) = ap app_of_fields c.subcommand_required.ensures ∙ ap with_required named in
    let cell = c.in_ok-cell_command.ensures in
    let sim = c.in_ok-sim_command.ensures in
    let serve = c.in_ok-serve_command.ensures in
    let load = c.in_ok-load_command.ensures in
    let first = knows_command c.subcommand_required.result c.in_ok-cell_command.field-0 c.in_ok-subcommand.field-0 _ cell_command top cell c.in_ok-subcommand.ensures in
    let second = knows_command c.in_ok-subcommand.field-0 c.in_ok-sim_command.field-0 c.in_ok-subcommand-2.field-0 _ sim_command first sim c.in_ok-subcommand-2.ensures in
    let third = knows_command c.in_ok-subcommand-2.field-0 c.in_ok-serve_command.field-0 c.in_ok-subcommand-3.field-0 _ serve_command second serve c.in_ok-subcommand-3.ensures in
    IfOk-weaker c.subcommand-4.result _ _
    (λ command adds. knows_command c.in_ok-subcommand-3.field-0 c.in_ok-load_command.field-0 command _ load_command third load adds) c.subcommand-4.ensures

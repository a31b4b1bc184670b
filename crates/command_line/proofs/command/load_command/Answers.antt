use Rattle.std.proofs.Common.{ap, ◌∙◌}
use Rattle.std.proofs.lemmas.Result.{IfOk-weaker}
use Rattle.clap.specs.Words.{AddsArg, App}
use Rattle.clap.specs.Simple.{app_of_fields}
use Rattle.clap.specs.declared.builder.command.Command.{Command}
use Rattle.command_line.specs.Words.{Knows, load_command, mix_rules, pace_rules, store_rules, with_rules}
use Rattle.command_line.proofs.KnownWords.{knows_more}
use Rattle.command_line.proofs.command.load_command.Goals as goal

known : (c : goal.After-arg) (command : Command) → AddsArg c.in_ok-with_pace.field-0 c.tenants.result command → Knows command load_command
known c command adds =
    let begun = ap app_of_fields c.after_help-load.ensures ∙ ap app_of_fields c.about.ensures ∙ c.new.ensures.app in
    let store = c.in_ok-with_store.ensures.words ∙ ap (λ (app : App). with_rules app store_rules) begun in
    let mix = c.in_ok-load.ensures.words ∙ ap (λ (app : App). with_rules app mix_rules) store in
    let paced : Knows c.in_ok-with_pace.field-0 _ = record {
      words = c.in_ok-with_pace.ensures.words ∙ ap (λ (app : App). with_rules app pace_rules) mix;
      local = c.in_ok-with_pace.ensures.local;
    } in
    knows_more c.in_ok-with_pace.field-0 c.tenants.result command _ _ paced c.tenants.ensures.rule c.tenants.ensures.local adds

pub returns : goal.returns
returns c = IfOk-weaker c.arg.result _ _ (known c) c.arg.ensures

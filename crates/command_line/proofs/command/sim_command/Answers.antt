use Rattle.std.proofs.Common.{ap, ◌∙◌}
use Rattle.std.proofs.lemmas.Result.{IfOk-weaker}
use Rattle.clap.specs.Words.{AddsArg, App}
use Rattle.clap.specs.Simple.{app_of_fields}
use Rattle.clap.specs.declared.builder.command.Command.{Command}
use Rattle.command_line.specs.Words.{Knows, sim_command, store_rules, with_rules}
use Rattle.command_line.proofs.KnownWords.{knows_more}
use Rattle.command_line.proofs.command.sim_command.Goals as goal

known : (c : goal.After-arg) (command : Command) → AddsArg c.in_ok-with_store.field-0 c.tenants.result command → Knows command sim_command
known c command adds =
    let begun = ap app_of_fields c.after_help-sim.ensures ∙ ap app_of_fields c.about.ensures ∙ c.new.ensures.app in
    let store : Knows c.in_ok-with_store.field-0 _ = record {
      words = c.in_ok-with_store.ensures.words ∙ ap (λ (app : App). with_rules app store_rules) begun;
      local = c.in_ok-with_store.ensures.local;
    } in
    knows_more c.in_ok-with_store.field-0 c.tenants.result command _ _ store c.tenants.ensures.rule c.tenants.ensures.local adds

pub returns : goal.returns
returns c = IfOk-weaker c.arg.result _ _ (known c) c.arg.ensures

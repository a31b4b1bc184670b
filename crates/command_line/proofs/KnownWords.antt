-- What clap's calls make of the words that are known: for `command`, `cell_command` and `sim_command`.
use Rattle.std.proofs.Common.{◌≡◌, false, ap, ap₂, ◌∙◌, refl}
use Rattle.clap.specs.Words.{AddsArg, AddsSubcommand, App, Rule, app_of, rule_of, with_rule, with_subcommand}
use Rattle.clap.specs.declared.builder.arg.Arg.{Arg}
use Rattle.clap.specs.declared.builder.command.Command.{Command}
use Rattle.command_line.specs.Words.{Knows}

pub knows_more : (old : Command) (arg : Arg) (new : Command) (app : App) (rule : Rule) → Knows old app → rule_of arg ≡ rule → arg.global ≡ false
    → AddsArg old arg new → Knows new (with_rule app rule)
knows_more old arg new app rule knows is local adds = record {
  words = adds.shape local ∙ ap₂ with_rule knows.words is;
  local = rw (adds.globals, knows.local, local) refl;
}

pub knows_command : (old sub new : Command) (app : App) (known : App) → app_of old ≡ app → Knows sub known → AddsSubcommand old sub new
    → app_of new ≡ with_subcommand app known.top
knows_command old sub new app known is knows adds = adds.shape knows.local ∙ ap₂ with_subcommand is (ap (λ (a : App). a.top) knows.words)

use Rattle.std.proofs.Common.{◌≡◌, false, drop}
use Rattle.clap.specs.Words.{app_of}
use Rattle.clap.specs.declared.builder.command.Command.TheViews.{out-Command as fields_of}
use Rattle.command_line.specs.Words.{rules_of, with_rules}
use Rattle.command_line.proofs.command.with_numbers.Given as goal

-- the options that are left lead from here to where all lead
abbrev pub invariant-loop-option : goal.invariant-loop-option
invariant-loop-option l = record {
  words : with_rules (app_of l.made) (rules_of (drop l.option-index l.options)) ≡ with_rules (app_of l.fn.command) (rules_of l.options);
  local : (fields_of l.made).has_globals ≡ false;
}

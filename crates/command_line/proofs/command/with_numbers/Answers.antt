use Rattle.std.proofs.Common.{◌+◌, ◌∙◌, List, [], refl, sym, ap, drop, get_or}
use Rattle.std.specs.Prelude.{pos}
use Rattle.std.proofs.lemmas.List.{at_drop_more, at_drop_all}
use Rattle.clap.specs.Words.{App, Rule, app_of}
use Rattle.command_line.specs.Words.{ranged_rule, rules_of, with_rules}
use Rattle.command_line.specs.declared.options.NumberOption.{NumberOption}
use Rattle.command_line.proofs.KnownWords.{knows_more}
use Rattle.command_line.proofs.command.with_numbers.Goals as goal

-- what a place past the options would hold
abbrev blank : NumberOption
blank = record {
  name = record { ref_ptr = (0, 0); now = [] };
  default = record { ref_ptr = (0, 0); now = [] };
  least = 0;
  most = 0;
  help = record { ref_ptr = (0, 0); now = [] };
}

abbrev rule_for : NumberOption → Rule
rule_for option = ranged_rule option.name.now option.default.now (pos option.least) (pos option.most)

pub loop-option-preserved : goal.loop-option-preserved
loop-option-preserved c =
    let options = c.args.options.now in
    let i = c.loop-option.option-index in
    let made = c.loop-option.made in
    let was = c.loop-option.invariant in
    let more = knows_more made c.number.result c.in_ok-made.made (app_of made) (rule_for (get_or options i blank)) (record { words = refl; local = was.local })
    c.number.ensures.rule c.number.ensures.local c.in_ok-made.ensures in
    record {
      words = ap (λ (app : App). with_rules app (rules_of (drop (i + 1) options))) more.words
          ∙ sym (at_drop_more (λ (left : List NumberOption). with_rules (app_of made) (rules_of left)) options i blank c.loop-option-test.true)
          ∙ was.words;
      local = more.local;
    }

pub returns : goal.returns
returns c =
    let made = c.loop-option.made in
    record {
      words =
          sym (at_drop_all (λ (left : List NumberOption). with_rules (app_of made) (rules_of left)) c.args.options.now c.loop-option.option-index c.loop-option-test.false)
          ∙ c.loop-option.invariant.words;
      local = c.loop-option.invariant.local;
    }

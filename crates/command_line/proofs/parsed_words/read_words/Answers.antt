use Rattle.std.proofs.Common.{map}
use Rattle.std.specs.Prelude.{string_bytes}
use Rattle.std.proofs.lemmas.Result.{IfErr-weaker, IfOk-weaker}
use Rattle.clap.specs.Words.{app_of}
use Rattle.command_line.proofs.WordsRead.{asks_for_met, asks_for_nothing, fails_for_nothing, fault_on, fault_weaker, may_ask_for_text}
use Rattle.command_line.proofs.parsed_words.read_words.Goals as goal

pub returns-in-Ok-clause-asked : goal.returns-in-Ok-clause-asked
returns-in-Ok-clause-asked c =
    IfOk-weaker c.read_matches.result _ _
    (asks_for_met (app_of c.in_ok-command.command) (map string_bytes c.args.words.now) c.in-Ok.matches c.in_ok-command.ensures c.in-Ok.ensures.kinds c.in-Ok.ensures.matches)
    c.read_matches.ensures.asked

pub returns-in-Ok-clause-error : goal.returns-in-Ok-clause-error
returns-in-Ok-clause-error c =
    IfErr-weaker c.read_matches.result _ _
    (fault_weaker _ _ (asks_for_nothing (app_of c.in_ok-command.command) (map string_bytes c.args.words.now) c.in-Ok.matches c.in_ok-command.ensures c.in-Ok.ensures.kinds c.in-Ok.ensures.matches))
    c.read_matches.ensures.error

pub returns-in_ok-text_of-in-Err-clause-asked : goal.returns-in_ok-text_of-in-Err-clause-asked
returns-in_ok-text_of-in-Err-clause-asked c =
    may_ask_for_text (app_of c.in_ok-command.command) (map string_bytes c.args.words.now) c.in-Err.error c.in_ok-command.ensures c.in-Err.ensures.kinds c.in_ok-text_of-in-Err.ensures.asked

pub returns-in_err-text_of-in-Err-clause-error : goal.returns-in_err-text_of-in-Err-clause-error
returns-in_err-text_of-in-Err-clause-error c =
    fault_on c.from_residual-in_err-text_of-in-Err.result c.in_err-text_of-in-Err.field-0.0 _ _ c.from_residual-in_err-text_of-in-Err.ensures.1 c.in_err-text_of-in-Err.ensures.error
    (fails_for_nothing (app_of c.in_ok-command.command) (map string_bytes c.args.words.now) c.in-Err.error c.in_ok-command.ensures c.in-Err.ensures.kinds)

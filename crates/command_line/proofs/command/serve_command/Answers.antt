use Rattle.std.proofs.Common.{ap, codes, ◌∙◌}
use Rattle.std.proofs.lemmas.Result.{IfOk-weaker}
use Rattle.clap.specs.Words.{AddsArg, new_app}
use Rattle.clap.specs.Simple.{app_of_fields}
use Rattle.clap.specs.declared.builder.command.Command.{Command}
use Rattle.command_line.specs.Words.{Knows, pace_rules, serve_command, store_rules, with_rules}
use Rattle.command_line.proofs.KnownWords.{knows_more}
use Rattle.command_line.proofs.command.serve_command.Goals as goal

known : (c : goal.After-arg-9) (command : Command) → AddsArg c.in_ok-arg-7.field-0 c.tenants.result command → Knows command serve_command
known c command adds =
    let begun = ap app_of_fields c.after_help-serve.ensures ∙ ap app_of_fields c.about.ensures ∙ c.new.ensures.app in
    let store : Knows c.in_ok-with_store.field-0 (with_rules (new_app (codes "serve")) store_rules) = record {
      words = c.in_ok-with_store.ensures.words ∙ ap (λ app. with_rules app store_rules) begun;
      local = c.in_ok-with_store.ensures.local;
    } in
    let port = knows_more c.in_ok-with_store.field-0 c.port.result c.in_ok-arg.field-0 _ _ store c.port.ensures.rule c.port.ensures.local c.in_ok-arg.ensures in
    let sessions = knows_more c.in_ok-arg.field-0 c.number.result c.in_ok-arg-2.field-0 _ _ port c.number.ensures.rule c.number.ensures.local c.in_ok-arg-2.ensures in
    let stay = knows_more c.in_ok-arg-2.field-0 c.stay.result c.in_ok-arg-3.field-0 _ _ sessions c.stay.ensures.rule c.stay.ensures.local c.in_ok-arg-3.ensures in
    let strict = knows_more c.in_ok-arg-3.field-0 c.strict.result c.in_ok-arg-4.field-0 _ _ stay c.strict.ensures.rule c.strict.ensures.local c.in_ok-arg-4.ensures in
    let newest = knows_more c.in_ok-arg-4.field-0 c.newest.result c.in_ok-arg-5.field-0 _ _ strict c.newest.ensures.rule c.newest.ensures.local c.in_ok-arg-5.ensures in
    let unrecorded = knows_more c.in_ok-arg-5.field-0 c.unrecorded.result c.in_ok-arg-6.field-0 _ _ newest c.unrecorded.ensures.rule c.unrecorded.ensures.local c.in_ok-arg-6.ensures in
    let counts = knows_more c.in_ok-arg-6.field-0 c.counts.result c.in_ok-serve.serve _ _ unrecorded c.counts.ensures.rule c.counts.ensures.local c.in_ok-serve.ensures in
    let paced : Knows c.in_ok-with_pace.field-0 _ = record {
      words = c.in_ok-with_pace.ensures.words ∙ ap (λ app. with_rules app pace_rules) counts.words;
      local = c.in_ok-with_pace.ensures.local;
    } in
    let status = knows_more c.in_ok-with_pace.field-0 c.number-2.result c.in_ok-arg-7.field-0 _ _ paced c.number-2.ensures.rule c.number-2.ensures.local c.in_ok-arg-7.ensures in
    knows_more c.in_ok-arg-7.field-0 c.tenants.result command _ _ status c.tenants.ensures.rule c.tenants.ensures.local adds

pub returns : goal.returns
returns c = IfOk-weaker c.arg-9.result _ _ (known c) c.arg-9.ensures

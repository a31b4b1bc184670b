use Rattle.std.proofs.Common.{ap, sym, ◌∙◌, Some}
use Rattle.std.proofs.lemmas.Bool.{both_ways}
use Rattle.plain_store.specs.Words.{Record}
use Rattle.tenant_sessions.proofs.Offers.{prepare_offered, commit_offered, of_prepare, of_commit}
use Rattle.tenant_sessions.proofs.Shown.{prepared_as, committed_as}
use Rattle.tenant_sessions.proofs.running_write.offer_reply.Goals as goal

pub returns-in-Prepare-Prepare : goal.returns-in-Prepare-Prepare
returns-in-Prepare-Prepare c = λ replied.
    let message = c.args.message.now in
    let version = c.in-Prepare-Prepare.version in
    let key_is = sym (ap (λ (v : Record). v.key) c.version.view_is) in
    let asked = c.in-Prepare-Prepare.is-0 in
    let to = replied ∙ ap Some c.in-Prepare-Prepare.is-1 in
    record {
      takes = λ setup stamp items taken s is.
          c.take_prepare.ensures.takes setup stamp items taken message s
          (prepare_offered setup taken message stamp items version _ _ is asked key_is to);
      shown = λ setup stamp items taken s.
          prepared_as setup stamp items taken message version _ _ _ c.take_prepare.new.self asked key_is to
          (λ m is. c.take_prepare.ensures.takes setup stamp items taken m s is);
      foreign = λ other. absurd (both_ways _ other (of_prepare message.call message.reply _ _ asked to));
      few = c.take_prepare.ensures.few;
    }

pub returns-in-Commit-Committed : goal.returns-in-Commit-Committed
returns-in-Commit-Committed c = λ replied.
    let message = c.args.message.now in
    let asked = c.in-Commit-Committed.is-0 in
    let to = replied ∙ ap Some c.in-Commit-Committed.is-1 in
    record {
      takes = λ setup stamp items taken s is.
          c.take_commit.ensures.takes setup stamp items taken message s (commit_offered setup taken message stamp items _ _ is asked to);
      shown = λ setup stamp items taken s.
          committed_as setup stamp items taken message _ _ _ c.take_commit.new.self asked to
          (λ m is. c.take_commit.ensures.takes setup stamp items taken m s is);
      foreign = λ other. absurd (both_ways _ other (of_commit message.call message.reply _ _ asked to));
      few = c.take_commit.ensures.few;
    }

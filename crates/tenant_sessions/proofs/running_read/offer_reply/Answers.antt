use Rattle.std.proofs.Common.{ap, ◌∙◌, Some, inl, inr}
use Rattle.std.proofs.lemmas.Bool.{both_ways}
use Rattle.tenant_sessions.proofs.Offers.{read_asked, get_offered, of_get}
use Rattle.tenant_sessions.proofs.Shown.{offered}
use Rattle.tenant_sessions.proofs.running_read.offer_reply.Goals as goal

pub returns-in-Get-Get : goal.returns-in-Get-Get
returns-in-Get-Get c = λ replied.
    let message = c.args.message.now in
    let asked = c.in-Get-Get.is-0 in
    let to = replied ∙ ap Some c.in-Get-Get.is-1 in
    record {
      takes = λ setup keys taken s is.
          elim (get_offered setup taken message keys c.in-Get-Get.key c.in-Get-Get.field-1-0 c.in-Get-Get.reply (read_asked setup taken message keys is.asked) asked to) [
            | inl first ↦ c.take_kind.ensures.first keys taken message (c.round.ensures ∙ first.0) s first.1
            | inr second ↦ c.take_kind.ensures.second keys taken message (c.round.ensures ∙ second.0) s second.1
          ];
      shown = λ keys taken s.
          offered keys taken message c.in-Get-Get.key c.in-Get-Get.reply _ c.take_kind.new.self c.in-Get-Get.field-1-0 asked to
          (λ round m first. c.take_kind.ensures.first keys taken m (c.round.ensures ∙ round) s first)
          (λ round m second. c.take_kind.ensures.second keys taken m (c.round.ensures ∙ round) s second);
      foreign = λ other. absurd (both_ways _ other (of_get message.call message.reply _ _ _ asked to));
      few = c.take_kind.ensures.few;
    }

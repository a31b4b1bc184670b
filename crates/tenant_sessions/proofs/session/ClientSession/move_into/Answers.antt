use Rattle.std.proofs.Common.{sym, ap, ◌∙◌, subst, Option, None, rules, []}
use Rattle.std.proofs.lemmas.Bool.{both_ways}
use Rattle.tenant_sessions.specs.declared.running.Running.{Running}
use Rattle.tenant_sessions.specs.declared.session.ClientSession.{ClientSession}
use Rattle.tenant_sessions.specs.Moves.{moved, is_ignored}
use Rattle.tenant_sessions.specs.Sending.{SendsSo, waiting_of}
use Rattle.tenant_sessions.specs.Showing.{IsShown, Shows}
use Rattle.tenant_sessions.proofs.Sent.{sends_none}
use Rattle.tenant_sessions.proofs.Shown.{shows_so}
use Rattle.tenant_sessions.proofs.session.ClientSession.move_into.Goals.{then-is_last, else-is_last}
use Rattle.tenant_sessions.proofs.session.ClientSession.move_into.Goals as goal

pub returns : goal.returns
returns c = record {
  idle = search rules;
  late = search rules;
  foreign = λ other.
      let left = c.take.ensures.foreign other in
      absurd (both_ways _ c.if-is_ignored.false (c.is_ignored.ensures [] ∙ ap (λ k. is_ignored (moved k [])) left.0));
  ended = search rules;
  goes_on = search rules;
  taken = search rules;
  shown = λ setup request taken has.
      let message = c.args.message.now in
      let move = moved c.take.new.kind c.take.new.readings in
      let P : Option Running → Type 0 = λ o. Shows setup request taken message move (λ replies. IsShown setup request replies o) in
      let after : Option Running = c.take.new.self in
      let shown : P after = c.take.ensures.shown setup request taken has in
      let raised = ap (λ (s : ClientSession). s.running) c.raise_by.ensures in
      elim c.if-is_last.branch [
        | then-is_last w ↦ subst P (sym (raised ∙ ap (λ (s : ClientSession). s.running) w.self-is ∙ w.forget.ensures))
            (shows_so setup request taken message move (λ replies. IsShown setup request replies after) (λ replies. IsShown setup request replies None) (λ replies is. tt) shown)
        | else-is_last w ↦ subst P (sym (raised ∙ ap (λ (s : ClientSession). s.running) w.self-is)) shown
      ];
  calls = search rules;
  sent =
      let move = moved c.take.new.kind c.take.new.readings in
      let P : Option Running → Type 0 = λ o. SendsSo move (waiting_of o) in
      let raised = ap (λ (s : ClientSession). s.running) c.raise_by.ensures in
      elim c.if-is_last.branch [
        | then-is_last w ↦ subst P (sym (raised ∙ ap (λ (s : ClientSession). s.running) w.self-is ∙ w.forget.ensures)) (sends_none move)
        | else-is_last w ↦ subst P (sym (raised ∙ ap (λ (s : ClientSession). s.running) w.self-is)) c.take.ensures.sent
      ];
  counter = search rules;
  still_open = search rules;
}

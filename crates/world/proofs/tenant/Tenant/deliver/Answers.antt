use Rattle.std.specs.Option.{option_copied}
use Rattle.std.proofs.Common.{ℕ, ap, is_some, refl, ◌≡◌, true, Some, sym, ◌∙◌, subst, rules}
use Rattle.plain_store.specs.declared.step.Act.TheVariants.{Deliver}
use Rattle.plain_store.specs.declared.refusal.Refusal.TheVariants.{RowsUsed, NoMessage}
use Rattle.plain_store.specs.Run.{moment_of}
use Rattle.plain_store.specs.History.{message_at, running}
use Rattle.world.specs.Standing.{answered_in_place}
use Rattle.world.proofs.QuietLogs.{IsSilent, takes_silent}
use Rattle.world.proofs.Moments.{no_rows, refuses, no_message, hands_reply}
use Rattle.world.proofs.Cells.{cells_refused, cells_silent}
use Rattle.world.proofs.Results.{match_map, some_of}
use Rattle.world.proofs.Asking.{on_err_map, none_of_not}
use Rattle.world.proofs.tenant.Tenant.deliver.Goals as goal

pub returns-then-rows_are_used : goal.returns-then-rows_are_used
returns-then-rows_are_used c = record {
  serves = λ setup history own is stands cells.
      let act = Deliver c.args.row in
      let used = no_rows setup history act _ refl (sym (c.rows_are_used.ensures.told history stands.table) ∙ c.if-rows_are_used.true) in
      (refuses setup history act RowsUsed c.args.self.now tt used stands, cells_refused setup history act RowsUsed c.args.shelves.now c.args.number used cells);
  asks = search rules;
  others = search rules;
  limits = search rules;
}

pub returns-in_default : goal.returns-in_default
returns-in_default c = record {
  serves = λ setup history own is stands cells.
      let act = Deliver c.args.row in
      let free = sym (c.rows_are_used.ensures.told history stands.table) ∙ c.if-rows_are_used.false in
      let at = sym (c.get.ensures.in_history history stands.table) ∙ ap option_copied c.in_default.is in
      let none = no_message setup history c.args.row free at in
      (refuses setup history act NoMessage c.args.self.now tt none stands, cells_refused setup history act NoMessage c.args.shelves.now c.args.number none cells);
  asks = search rules;
  others = search rules;
  limits = search rules;
}

pub returns-then-is_some : goal.returns-then-is_some
returns-then-is_some c = record {
  serves = λ setup history own is stands cells.
      let free = sym (c.rows_are_used.ensures.told history stands.table) ∙ c.if-rows_are_used.false in
      let act = Deliver c.args.row in
      let message = c.in-Some.message.now in
      let at : message_at history c.args.row ≡ Some message = sym (c.get.ensures.in_history history stands.table) ∙ ap option_copied c.in-Some.is in
      let there : is_some message.reply ≡ true = sym c.is_some.ensures ∙ c.if-is_some.true in
      let reply = some_of message.reply there in
      let goes = hands_reply setup history c.args.row message reply.0 free at reply.1 in
      let silent = λ (partition : ℕ). subst (IsSilent setup history partition) (sym goes) (takes_silent setup history partition c.args.row message (running history message.client)) in
      match_map (answered_in_place c.deliver_reply.result c.deliver_reply.new.answer) _ _ _ _
      (λ answer takes. (takes, cells_silent setup history (moment_of setup history act) c.args.shelves.now c.args.number silent cells))
      (λ error still. (still, refl))
      (c.deliver_reply.ensures.takes setup history message is stands free at there);
  asks = on_err_map (answered_in_place c.deliver_reply.result c.deliver_reply.new.answer) _ _
      (λ asks setup history is stands.
      let free = sym (c.rows_are_used.ensures.told history stands.table) ∙ c.if-rows_are_used.false in
      let at : message_at history c.args.row ≡ Some c.in-Some.message.now = sym (c.get.ensures.in_history history stands.table) ∙ ap option_copied c.in-Some.is in
      asks setup history c.in-Some.message.now free at (sym c.is_some.ensures ∙ c.if-is_some.true))
      c.deliver_reply.ensures.asks;
  others = search rules;
  limits = search rules;
}

pub returns : goal.returns
returns c = record {
  serves = λ setup history own is stands cells.
      let free = sym (c.rows_are_used.ensures.told history stands.table) ∙ c.if-rows_are_used.false in
      let at : message_at history c.args.row ≡ Some c.in-Some.message.now = sym (c.get.ensures.in_history history stands.table) ∙ ap option_copied c.in-Some.is in
      c.deliver_call.ensures.serves setup history c.in-Some.message.now own is stands cells free at (none_of_not c.in-Some.message.now.reply (sym c.is_some.ensures ∙ c.if-is_some.false));
  asks = on_err_map (answered_in_place c.deliver_call.result c.deliver_call.new.answer) _ _
      (λ asks setup history is stands.
      let free = sym (c.rows_are_used.ensures.told history stands.table) ∙ c.if-rows_are_used.false in
      let at : message_at history c.args.row ≡ Some c.in-Some.message.now = sym (c.get.ensures.in_history history stands.table) ∙ ap option_copied c.in-Some.is in
      asks setup history c.in-Some.message.now free at (none_of_not c.in-Some.message.now.reply (sym c.is_some.ensures ∙ c.if-is_some.false)))
      c.deliver_call.ensures.asks;
  others = search rules;
  limits = search rules;
}

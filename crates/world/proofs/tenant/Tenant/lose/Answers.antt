use Rattle.std.proofs.Common.{append-nil, ◌≡◌, [], ◌∷◌, is_some, true, false, cond, refl, sym, ap, ◌∙◌, subst, arith, rules}
use Rattle.plain_store.specs.declared.step.Act.TheVariants.{Lose}
use Rattle.plain_store.specs.declared.answer.Answer.TheVariants.{Lost, Refused}
use Rattle.plain_store.specs.declared.refusal.Refusal.TheVariants.{NoMessage}
use Rattle.plain_store.specs.History.{moment, messages, lost_rows, message_at}
use Rattle.message_table.specs.Content.{StandsFor as TableStandsFor}
use Rattle.message_table.proofs.Sending.{message_at-in}
use Rattle.world.proofs.Moments.{takes_by, loses, loses_nothing, table_quiet, sessions_stay, refusal_of}
use Rattle.world.proofs.Results.{turned}
use Rattle.world.proofs.tenant.Tenant.lose.Goals as goal

pub returns-then-lose : goal.returns-then-lose
returns-then-lose c = record {
  takes = λ setup history is stands.
      let row = c.args.row in
      let m = moment (Lose row) Lost [] in
      let there = sym c.lose.ensures.was_live ∙ c.if-lose.true in
      let live : is_some (message_at history row) ≡ true = ap is_some (sym (stands.table.live row ∙ message_at-in history row)) ∙ there in
      let table = subst (λ b. TableStandsFor c.lose.new.self (messages history) (cond b (row ∷ lost_rows history) (lost_rows history))) c.if-lose.true (c.lose.ensures.stands (messages history) (lost_rows history) stands.table) in
      takes_by setup history (Lose row) Lost (record { limits = c.args.self.now.limits; keep = c.args.self.now.keep; table = c.lose.new.self; sessions = c.args.self.now.sessions; readings = c.args.self.now.readings }) m (loses setup history row (turned (message_at history row) true live)) refl (omega arith) (record {
        table = subst (λ ms. TableStandsFor c.lose.new.self ms (row ∷ lost_rows history)) (sym (append-nil (messages history))) table;
        sessions = sessions_stay setup history m c.args.self.now.sessions stands.sessions refl;
        keep = stands.keep;
      });
  limits = search rules;
}

pub returns-else-lose : goal.returns-else-lose
returns-else-lose c = record {
  takes = λ setup history is stands.
      let row = c.args.row in
      let m = refusal_of (Lose row) NoMessage in
      let there = sym c.lose.ensures.was_live ∙ c.if-lose.false in
      let live : is_some (message_at history row) ≡ false = ap is_some (sym (stands.table.live row ∙ message_at-in history row)) ∙ there in
      let table = subst (λ b. TableStandsFor c.lose.new.self (messages history) (cond b (row ∷ lost_rows history) (lost_rows history))) c.if-lose.false (c.lose.ensures.stands (messages history) (lost_rows history) stands.table) in
      takes_by setup history (Lose row) (Refused NoMessage) (record { limits = c.args.self.now.limits; keep = c.args.self.now.keep; table = c.lose.new.self; sessions = c.args.self.now.sessions; readings = c.args.self.now.readings }) m (loses_nothing setup history row (turned (message_at history row) false live)) refl (omega arith) (record {
        table = table_quiet m history c.lose.new.self refl refl table;
        sessions = sessions_stay setup history m c.args.self.now.sessions stands.sessions refl;
        keep = stands.keep;
      });
  limits = search rules;
}

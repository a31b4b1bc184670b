use Rattle.std.proofs.Common.{◌≡◌, [], length, true, false, refl, sym, ap, ◌∙◌, arith, cond, Some, None, rules}
use Rattle.std.proofs.lemmas.Bool.{ne_eqb}
use Rattle.plain_store.specs.declared.step.Act.TheVariants.{Retry}
use Rattle.plain_store.specs.declared.refusal.Refusal.TheVariants.{RowsUsed}
use Rattle.plain_store.specs.declared.answer.Answer.TheVariants.{Sent}
use Rattle.plain_store.specs.History.{moment, messages, lost_rows}
use Rattle.plain_store.specs.Run.{rows_are_used, next_rows, moment_of}
use Rattle.tenant_sessions.specs.Sessions.{waiting, resent}
use Rattle.world.specs.Standing.{answered_in_place}
use Rattle.std.proofs.lemmas.List.{nil_from_length}
use Rattle.world.proofs.Moments.{no_rows, refuses, answers, sends_calls, sessions_stay}
use Rattle.world.proofs.Asking.{on_err_any, asks_by, resending_asks}
use Rattle.world.proofs.tenant.Tenant.retry.Goals as goal

pub returns-then-rows_are_used : goal.returns-then-rows_are_used
returns-then-rows_are_used c = record {
  takes = λ setup history is stands.
      let used : rows_are_used history ≡ true = sym (c.rows_are_used.ensures.told history stands.table) ∙ c.if-rows_are_used.true in
      refuses setup history (Retry c.args.client) RowsUsed c.args.self.now tt (no_rows setup history (Retry c.args.client) _ refl used) stands;
  asks = search rules;
  limits = search rules;
}

pub returns-in-Err : goal.returns-in-Err
returns-in-Err c = record {
  takes = λ setup history is stands.
      let free : rows_are_used history ≡ false = sym (c.rows_are_used.ensures.told history stands.table) ∙ c.if-rows_are_used.false in
      refuses setup history (Retry c.args.client) c.in-Err.refusal c.args.self.now tt (c.in-Err.ensures.refused setup history is stands.sessions free) stands;
  asks = search rules;
  limits = search rules;
}

pub returns-then-calls-eq0 : goal.returns-then-calls-eq0
returns-then-calls-eq0 c = record {
  takes = λ setup history is stands.
      let free : rows_are_used history ≡ false = sym (c.rows_are_used.ensures.told history stands.table) ∙ c.if-rows_are_used.false in
      let told = c.in-Ok.ensures.told setup history is stands.sessions free in
      let zero = c.if-calls-eq0.true in
      let none : waiting setup history c.args.client ≡ [] = nil_from_length _ (sym (c.in-Ok.ensures.count setup history is stands.sessions) ∙ zero) in
      let m = moment (Retry c.args.client) (Sent None) [] in
      let quiet : moment_of setup history (Retry c.args.client) ≡ m = told ∙ (λ i. moment (Retry c.args.client) (resent (zero i) (next_rows history (zero i))) (none i)) in
      answers setup history (Retry c.args.client) (Sent None) c.args.self.now c.args.self.now.sessions tt quiet refl stands (sessions_stay setup history m c.args.self.now.sessions stands.sessions refl);
  asks = search rules;
  limits = search rules;
}

pub returns : goal.returns
returns c = record {
  takes = λ setup history is stands.
      let free : rows_are_used history ≡ false = sym (c.rows_are_used.ensures.told history stands.table) ∙ c.if-rows_are_used.false in
      let told = c.in-Ok.ensures.told setup history is stands.sessions free in
      let n = c.in-Ok.calls in
      let all = waiting setup history c.args.client in
      let count : n ≡ length all = c.in-Ok.ensures.count setup history is stands.sessions in
      let rows = next_rows history n in
      let m = moment (Retry c.args.client) (Sent (Some rows)) all in
      let sends : moment_of setup history (Retry c.args.client) ≡ m = told ∙ ap (λ b. moment (Retry c.args.client) (cond b (Sent None) (Sent (Some rows))) all) (ne_eqb n 0 c.if-calls-eq0.false) in
      let room = c.in_ok-reserve.ensures.stands (messages history) (lost_rows history) stands.table in
      let sent = c.send_waiting.ensures setup history (messages history) (lost_rows history) is stands.sessions room in
      sends_calls setup history (Retry c.args.client) (Sent (Some c.next_rows-rows.result)) (record { limits = c.args.self.now.limits; keep = c.args.self.now.keep; table = c.send_waiting.new.table; sessions = c.args.self.now.sessions; readings = c.args.self.now.readings }) n all m tt c.in-Ok.ensures.few sends
      (ap (λ r. Sent (Some r)) (c.next_rows-rows.ensures history room)) refl (omega (arith, count)) sent (sessions_stay setup history m c.args.self.now.sessions stands.sessions refl) stands.keep;
  asks = search rules;
  limits = search rules;
}

pub returns-in_err-reserve : goal.returns-in_err-reserve
returns-in_err-reserve c = record {
  takes = search rules;
  asks = on_err_any (answered_in_place c.from_residual.result c.args.answer.now) _
      (λ setup history is stands.
      let free : rows_are_used history ≡ false = sym (c.rows_are_used.ensures.told history stands.table) ∙ c.if-rows_are_used.false in
      let n = c.in-Ok.calls in
      asks_by setup history (Retry c.args.client) (moment (Retry c.args.client) (resent n (next_rows history n)) (waiting setup history c.args.client)) (c.in-Ok.ensures.told setup history is stands.sessions free) (resending_asks history c.args.client n));
  limits = search rules;
}

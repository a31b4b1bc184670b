use Rattle.std.proofs.Common.{◌∙◌, ◌&&◌, Some, arith, ap, false, inl, inr, refl, rules, subst, sym}
use Rattle.std.specs.Prelude.{nat_eq, not}
use Rattle.std.proofs.lemmas.Result.{err_from_is_err_and}
use Rattle.hub.specs.Hubs.{ConfigView, config_view, view_with}
use Rattle.server_sessions.specs.Ports.{listener_of, port_of}
use Rattle.load.proofs.Histories.{is_closed}
use Rattle.workload.specs.Amounts.{AreAmounts, TellsAmounts}
use Rattle.workload.specs.Serving.{ComesBehind, HasChecked, IsLeftIn, is_told}
use Rattle.workload.proofs.Listening.{amounts_behind, checks_text, closed_on, is_cut, no_port, no_room_to_check, no_store, nothing_told, port_then, text_behind}
use Rattle.closed_store.specs.declared.closed.Closed.{Closed}
use Rattle.server_verdicts.specs.declared.epochs.ending.LastEpochs.{LastEpochs}
use Rattle.server_verdicts.specs.Judged.{TellsChecks}
use Rattle.workload.specs.declared.serve.StoreLeft.TheVariants.{Endings}
use Rattle.workload.proofs.serve.serve_and_check.Goals as goal

pub returns : goal.returns
returns g c =
    let closed = c.close_store-left_here.result.0 in
    let old = g.W.Write.contents c.args.writer.now in
    let between = g.W.Write.contents c.serve_all-told.new.writer in
    let behind = g.W.Write.contents c.tell_checks-verdicts.new.writer in
    let new = g.W.Write.contents c.tell_behind-ended.new.writer in
    let told = c.tell_checks-verdicts.result in
    let came = c.tell_behind-ended.result in
    let view = config_view c.args.given.store.config in
    let checks : HasChecked view closed c.args.given.names.now between behind told =
    inr (
      c.in_ok-endings.endings,
      c.in_ok-endings.ensures.limits ∙ ap (λ (v : ConfigView). v.limits) c.close_store-left_here.ensures.closed.config ∙ ap (λ (v : ConfigView). v.limits) c.in_ok-hub.ensures.done,
      c.in_ok-endings.ensures.left.as_many ∙ c.close_store-left_here.ensures.closed.parts ∙ ap (λ (v : ConfigView). v.parts) c.in_ok-hub.ensures.done,
      c.in_ok-endings.ensures.left,
      subst (λ (its : LastEpochs). TellsChecks its c.args.given.names.now between behind told) c.endings.ensures c.tell_checks-verdicts.ensures,
    ) in
    let amounts : ComesBehind (is_told told && c.args.given.options.counts) (TellsAmounts (nat_eq view.epoch 0) closed c.args.given.names.now) behind new told came =
    amounts_behind (is_told told) c.args.given.options.counts false (nat_eq view.epoch 0) closed c.deref.result.now c.args.given.names.now behind new told came (is_cut view.epoch c.requires.cut) (λ asked. subst (AreAmounts closed) (sym c.deref.ensures.value) (subst (λ (its : Closed). AreAmounts its c.in_ok-amounts.amounts.items) c.closed.ensures (c.in_ok-amounts.ensures asked))) c.tell_behind-ended.ensures in
    record {
      served =
          closed_on (IsLeftIn {J = g.row.J.Denot} (Some (Endings c.in_ok-endings.endings c.left-left.result.faults))) c.args.given.options.counts view c.args.given.names.now old between behind new closed told came c.fault_of-before.result c.ended_after.result c.in_ok-told.ensures.listened
          (is_closed view _ closed c.close_store-left_here.ensures.closed (c.in_ok-hub.ensures.done ∙ ap (view_with c.args.given.store.config) (c.args.given.journals ∙ ap not c.requires.recorded))) (inl (c.in_ok-endings.ensures.left, c.fault_of-before.ensures.exact)) (λ kept. absurd (omega (arith, kept, c.requires.cut)))
          (λ cut. checks) amounts c.fault_of-before.ensures.before c.ended_after.ensures;
      port =
          port_then (port_of (listener_of c.args.given.server)) old between new came c.ended_after.result c.in_ok-told.ensures.port
          (text_behind (is_told told && c.args.given.options.counts) c.args.given.options.counts (nat_eq view.epoch 0) closed c.args.given.names.now between behind new told came refl
          (checks_text view closed c.args.given.names.now between behind told checks) amounts)
          (_, c.fault_of-before.ensures.before, c.ended_after.ensures);
    }

pub returns-in_err-amounts : goal.returns-in_err-amounts
returns-in_err-amounts g c = record {
  served =
      let p = err_from_is_err_and c.from_residual-in_err-amounts.result c.from_residual-in_err-amounts.ensures.1 in
      rw (p.1, p.2) (no_room_to_check _ c.args.given.options.counts (config_view c.args.given.store.config) c.args.given.names.now (g.W.Write.contents c.args.writer.now) (g.W.Write.contents c.serve_all-told.new.writer)
      c.close_store-left_here.result.0 c.in_ok-told.ensures.listened (is_closed (config_view c.args.given.store.config) _ c.close_store-left_here.result.0 c.close_store-left_here.ensures.closed (c.in_ok-hub.ensures.done ∙ ap (view_with c.args.given.store.config) (c.args.given.journals ∙ ap not c.requires.recorded))) c.requires.cut);
  port = search rules;
}

pub returns-in_err-endings : goal.returns-in_err-endings
returns-in_err-endings g c = record {
  served =
      let p = err_from_is_err_and c.from_residual-in_err-endings.result c.from_residual-in_err-endings.ensures.1 in
      rw (p.1, p.2) (no_room_to_check _ c.args.given.options.counts (config_view c.args.given.store.config) c.args.given.names.now (g.W.Write.contents c.args.writer.now) (g.W.Write.contents c.serve_all-told.new.writer)
      c.close_store-left_here.result.0 c.in_ok-told.ensures.listened (is_closed (config_view c.args.given.store.config) _ c.close_store-left_here.result.0 c.close_store-left_here.ensures.closed (c.in_ok-hub.ensures.done ∙ ap (view_with c.args.given.store.config) (c.args.given.journals ∙ ap not c.requires.recorded))) c.requires.cut);
  port = search rules;
}

pub returns-in_err-hub : goal.returns-in_err-hub
returns-in_err-hub g c = record {
  served =
      let p = err_from_is_err_and c.from_residual.result c.from_residual.ensures.1 in
      rw (p.1, p.2) (nothing_told _ false c.args.given.options.counts (config_view c.args.given.store.config) c.args.given.names.now (g.W.Write.contents c.args.writer.now) c.in_err-hub.field-0.0 c.in_err-hub.ensures.refused);
  port =
      let p = err_from_is_err_and c.from_residual.result c.from_residual.ensures.1 in
      rw (p.1, p.2) (no_store (port_of (listener_of c.args.given.server)) (g.W.Write.contents c.args.writer.now) (g.W.Write.contents c.args.writer.now) c.in_err-hub.field-0.0 c.in_err-hub.ensures.refused);
}

pub returns-in_err-told : goal.returns-in_err-told
returns-in_err-told g c = record {
  served = search rules;
  port =
      let p = err_from_is_err_and c.from_residual-in_err-told.result c.from_residual-in_err-told.ensures.1 in
      let now = g.W.Write.contents c.serve_all-told.new.writer in
      rw (p.1, p.2) (no_port (port_of (listener_of c.args.given.server)) (g.W.Write.contents c.args.writer.now) now now c.in_err-told.field-0.0 c.in_err-told.ensures.listened);
}

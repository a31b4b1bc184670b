use Rattle.std.proofs.Common.{◌∙◌, Some, ap, inl, refl, rules, subst, false, true}
use Rattle.std.proofs.lemmas.Result.{err_from_is_err_and}
use Rattle.std.specs.Prelude.{length, not, vec_len}
use Rattle.closed_store.specs.declared.closed.Closed.{Closed}
use Rattle.hub.specs.Hubs.{ConfigView, view_with}
use Rattle.server_sessions.specs.Ports.{listener_of, port_of}
use Rattle.load.proofs.Histories.{is_closed}
use Rattle.workload.proofs.Listening.{closed_unrecorded, no_port, no_store, nothing_told, port_then, served_text}
use Rattle.workload.specs.declared.serve.StoreLeft.TheVariants.{Whole}
use Rattle.workload.specs.Serving.{IsLeftIn}
use Rattle.workload.specs.Unrecorded.{TellsServed}
use Rattle.workload.proofs.serve.serve_unrecorded.Goals as goal

pub returns : goal.returns
returns g c =
    let opened = c.in_ok-hub.ensures.done ∙ ap (view_with c.args.given.store.config) (c.args.given.journals ∙ ap not c.requires.unrecorded) in
    let between = g.W.Write.contents c.serve_all-told.new.writer in
    let new = g.W.Write.contents c.tell_served-ended.new.writer in
    let served : TellsServed (length (view_with c.args.given.store.config false).limits) c.args.given.names.now between new c.tell_served-ended.result =
    subst (λ n. TellsServed n c.args.given.names.now between new c.tell_served-ended.result) (c.len-tenants.ensures ∙ ap (λ (its : Closed). vec_len its.config.limits) c.closed.ensures ∙ c.close_store-left_here.result.0.config.limits.ok.0 ∙ ap (λ (v : ConfigView). length v.limits) c.close_store-left_here.ensures.closed.config ∙ ap (λ (v : ConfigView). length v.limits) opened) c.tell_served-ended.ensures in
    record {
      served =
          closed_unrecorded (IsLeftIn {J = g.row.J.Denot} (Some (Whole c.close_store-left_here.result.0 c.left_and_answers-left.result.0.faults))) c.args.given.options.counts (view_with c.args.given.store.config false) c.args.given.names.now (g.W.Write.contents c.args.writer.now) between new c.close_store-left_here.result.0 c.tell_served-ended.result c.fault_of-before.result c.ended_after.result
          c.in_ok-told.ensures.listened (is_closed (view_with c.args.given.store.config false) _ c.close_store-left_here.result.0 c.close_store-left_here.ensures.closed opened) (inl (refl, c.fault_of-before.ensures.exact)) served c.fault_of-before.ensures.before c.ended_after.ensures;
      port =
          port_then (port_of (listener_of c.args.given.server)) (g.W.Write.contents c.args.writer.now) between new c.tell_served-ended.result c.ended_after.result c.in_ok-told.ensures.port
          (served_text (length (view_with c.args.given.store.config false).limits) c.args.given.names.now between new c.tell_served-ended.result served) (_, c.fault_of-before.ensures.before, c.ended_after.ensures);
    }

pub returns-in_err-hub : goal.returns-in_err-hub
returns-in_err-hub g c = record {
  served =
      let p = err_from_is_err_and c.from_residual.result c.from_residual.ensures.1 in
      rw (p.1, p.2) (nothing_told _ true c.args.given.options.counts (view_with c.args.given.store.config false) c.args.given.names.now (g.W.Write.contents c.args.writer.now) c.in_err-hub.field-0.0 c.in_err-hub.ensures.refused);
  port =
      let p = err_from_is_err_and c.from_residual.result c.from_residual.ensures.1 in
      rw (p.1, p.2) (no_store (port_of (listener_of c.args.given.server)) (g.W.Write.contents c.args.writer.now) (g.W.Write.contents c.args.writer.now) c.in_err-hub.field-0.0 c.in_err-hub.ensures.refused);
}

pub returns-in_err-told : goal.returns-in_err-told
returns-in_err-told g c = record {
  served = search rules;
  port =
      let p = err_from_is_err_and c.from_residual-in_err-told.result c.from_residual-in_err-told.ensures.1 in
      let now = g.W.Write.contents c.serve_all-told.new.writer in
      rw (p.1, p.2) (no_port (port_of (listener_of c.args.given.server)) (g.W.Write.contents c.args.writer.now) now now c.in_err-told.field-0.0 c.in_err-told.ensures.listened);
}

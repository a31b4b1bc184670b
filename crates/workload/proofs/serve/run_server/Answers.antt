use Rattle.std.proofs.Common.{inr, refl, rules}
use Rattle.std.proofs.lemmas.Result.{err_from_is_err_and}
use Rattle.std.specs.Prelude.{not}
use Rattle.hub.specs.Hubs.{view_with}
use Rattle.workload.proofs.Listening.{no_port_for, nothing_told, port_is}
use Rattle.workload.proofs.serve.run_server.Goals as goal

pub returns : goal.returns
returns g c = record {
  served = search rules;
  port =
      port_is c.args.options.port c.in-Ok.listener (g.W.Write.contents c.args.writer.now) (g.W.Write.contents c.serve_named.new.writer) c.serve_named.result
      c.in-Ok.ensures c.serve_named.ensures.port;
}

pub returns-in_default : goal.returns-in_default
returns-in_default g c = record {
  served = search rules;
  port = (c.args.options.port, inr refl, tt);
}

pub returns-in_err-status : goal.returns-in_err-status
returns-in_err-status g c = record {
  served =
      let p = err_from_is_err_and c.from_residual.result c.from_residual.ensures.1 in
      rw (p.1, p.2) (nothing_told _ c.args.options.unrecorded c.args.options.counts (view_with c.args.config (not c.args.options.unrecorded)) c.args.names.now (g.W.Write.contents c.args.writer.now) c.in_err-status.field-0.0 c.in_err-status.ensures);
  port =
      let p = err_from_is_err_and c.from_residual.result c.from_residual.ensures.1 in
      rw (p.1, p.2) (no_port_for c.args.options.port (g.W.Write.contents c.args.writer.now) c.in_err-status.field-0.0 c.in_err-status.ensures);
}

use Rattle.hub.specs.Hubs.{view_with}
use Rattle.workload.proofs.Listening.{served_some}
use Rattle.workload.proofs.serve.serve_named.Goals as goal

pub returns : goal.returns
returns g c =
    let options = c.args.options in
    let view = view_with c.args.store.config c.args.store.journals in
    let old = g.W.Write.contents c.args.writer.now in
    let new = g.W.Write.contents c.serve.new.writer in
    record {
      served = served_some _ options.unrecorded options.counts view c.args.names.now old new c.serve.result c.serve.ensures.served;
      port = rw c.in_ok-server.ensures.listener at c.serve.ensures.port;
    }

use Rattle.std.proofs.Common.{ℕ, subst}
use Rattle.std.specs.Prelude.{not}
use Rattle.hub.specs.Hubs.{ConfigView, view_with}
use Rattle.workload.specs.Serving.{ServesAndTells, TellsPortFor, store_view}
use Rattle.workload.proofs.words.serve_store.Goals as goal

pub returns : goal.returns
returns g c =
    let old = g.W.Write.contents c.args.writer.now in
    let new = g.W.Write.contents c.run_server.new.writer in
    let options = c.args.options in
    let of_config : ServesAndTells options.unrecorded options.counts (view_with c.in_ok-config.config (not options.unrecorded)) c.args.store.now.names.items (TellsPortFor options.port) old new c.run_server.result =
    subst (λ names. ServesAndTells options.unrecorded options.counts (view_with c.in_ok-config.config (not options.unrecorded)) names (TellsPortFor options.port) old new c.run_server.result) c.as_slice-names.ensures.value c.run_server.ensures in
    let store = c.args.store.now in
    let of_asked : ServesAndTells options.unrecorded options.counts (record (store_view store.parts store.limits store.names.items options.queue options.every c.epoch_of-epoch.result) { journals = not options.unrecorded }) store.names.items (TellsPortFor options.port) old new c.run_server.result =
    subst (λ (view : ConfigView). ServesAndTells options.unrecorded options.counts (record view { journals = not options.unrecorded }) store.names.items (TellsPortFor options.port) old new c.run_server.result) c.in_ok-config.ensures of_config in
    subst (λ (epoch : ℕ). ServesAndTells options.unrecorded options.counts (record (store_view store.parts store.limits store.names.items options.queue options.every epoch) { journals = not options.unrecorded }) store.names.items (TellsPortFor options.port) old new c.run_server.result) c.epoch_of-epoch.ensures.epoch of_asked

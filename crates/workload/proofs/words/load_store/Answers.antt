use Rattle.std.proofs.Common.{subst}
use Rattle.hub.specs.Hubs.{config_view}
use Rattle.load.specs.Loading.{HasLoaded}
use Rattle.workload.specs.Program.{load_view}
use Rattle.workload.proofs.words.load_store.Goals as goal

pub returns : goal.returns
returns g c =
    let old = g.W.Write.contents c.args.writer.now in
    let new = g.W.Write.contents c.run_load.new.writer in
    let of_config : HasLoaded (config_view c.in_ok-config.config) (load_view c.args.options) c.args.store.now.names.items old new c.run_load.result =
    subst (λ names. HasLoaded (config_view c.in_ok-config.config) (load_view c.args.options) names old new c.run_load.result) c.as_slice-names.ensures.value c.run_load.ensures in
    subst (λ view. HasLoaded view (load_view c.args.options) c.args.store.now.names.items old new c.run_load.result) c.in_ok-config.ensures of_config

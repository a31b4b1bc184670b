use Rattle.std.proofs.Common.{subst}
use Rattle.closed_store.specs.declared.config.Config.{Config}
use Rattle.hub.specs.Hubs.{config_view}
use Rattle.load.specs.Loading.{HasLoaded}
use Rattle.load.proofs.loading.run_load.Goals as goal

pub returns-then-is_cut : goal.returns-then-is_cut
returns-then-is_cut g c =
    let L : Config → Type 0 = λ config. HasLoaded (config_view config) (record { seats = c.args.seats; rounds = c.args.rounds; seed = c.args.seed; keys = c.args.keys }) c.args.names.now
    (g.W.Write.contents c.args.writer.now) (g.W.Write.contents c.load_and_join.new.writer) c.load_and_join.result in
    subst L c.of-store.ensures.config c.load_and_join.ensures

pub returns-else-is_cut : goal.returns-else-is_cut
returns-else-is_cut g c =
    let L : Config → Type 0 = λ config. HasLoaded (config_view config) (record { seats = c.args.seats; rounds = c.args.rounds; seed = c.args.seed; keys = c.args.keys }) c.args.names.now
    (g.W.Write.contents c.args.writer.now) (g.W.Write.contents c.load_and_settle.new.writer) c.load_and_settle.result in
    subst L c.of-store.ensures.config c.load_and_settle.ensures

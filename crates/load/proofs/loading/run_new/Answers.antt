use Rattle.std.proofs.Common.{◌∙◌, ap, rules}
use Rattle.hub.specs.Hubs.{config_view, view_with}
use Rattle.load.proofs.Histories.{is_closed}
use Rattle.load.proofs.loading.run_new.Goals as goal

pub returns-in-Ok : goal.returns-in-Ok
returns-in-Ok g c = record {
  done = (
    rw c.into_closed.ensures (is_closed (config_view c.args.store.config) _ c.close_store-closed.result.0 c.close_store-closed.ensures.closed (c.in_ok-hub.ensures.done ∙ ap (view_with c.args.store.config) c.requires.journals)),
    search rules,
  );
  refused = tt;
}

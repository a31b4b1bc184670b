use Rattle.std.proofs.Common.{arith, inl, inr}
use Rattle.std.proofs.lemmas.Result.{err_from_is_err_and}
use Rattle.hub.specs.Hubs.{config_view}
use Rattle.load.proofs.ToldKept.{nothing_loaded}
use Rattle.load.proofs.loading.load_and_join.Goals as goal

pub returns : goal.returns
returns g c =
    inr (
      c.in_ok-closed.closed,
      c.in_ok-closed.ensures.done.0,
      c.in_ok-closed.ensures.done.1,
      record { whole = λ never. absurd (omega (arith, never, c.requires.cut)); cut = λ cut. (c.in_ok-epochs.epochs.items, c.in_ok-epochs.ensures.all, c.tell_kept.ensures) },
    )

pub returns-in_err-closed : goal.returns-in_err-closed
returns-in_err-closed g c =
    let p = err_from_is_err_and c.from_residual-in_err-closed.result c.from_residual-in_err-closed.ensures.1 in
    rw (p.1, p.2) (nothing_loaded (config_view c.args.store.config) _ c.args.names.now (g.W.Write.contents c.args.writer.now) c.in_err-closed.field-0.0 c.in_err-closed.ensures.refused)

pub returns-in_err-epochs : goal.returns-in_err-epochs
returns-in_err-epochs g c =
    let p = err_from_is_err_and c.from_residual-in_err-epochs.result c.from_residual-in_err-epochs.ensures.1 in
    rw (p.1, p.2) (nothing_loaded (config_view c.args.store.config) _ c.args.names.now (g.W.Write.contents c.args.writer.now) c.in_err-epochs.field-0.0 (inl c.in_err-epochs.ensures.refused))

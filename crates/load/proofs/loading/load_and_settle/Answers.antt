use Rattle.std.proofs.Common.{arith, inr}
use Rattle.std.proofs.lemmas.Result.{err_from_is_err_and}
use Rattle.hub.specs.Hubs.{config_view}
use Rattle.load.proofs.ToldKept.{nothing_loaded}
use Rattle.load.proofs.loading.load_and_settle.Goals as goal

pub returns : goal.returns
returns g c =
    inr (c.in_ok-closed.closed, c.in_ok-closed.ensures.done.0, c.in_ok-closed.ensures.done.1, record { whole = λ never. c.tell_load.ensures; cut = λ cut. absurd (omega (arith, cut, c.requires.never)) })

pub returns-in_err-closed : goal.returns-in_err-closed
returns-in_err-closed g c =
    let p = err_from_is_err_and c.from_residual.result c.from_residual.ensures.1 in
    rw (p.1, p.2) (nothing_loaded (config_view c.args.store.config) _ c.args.names.now (g.W.Write.contents c.args.writer.now) c.in_err-closed.field-0.0 c.in_err-closed.ensures.refused)

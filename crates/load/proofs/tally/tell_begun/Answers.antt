use Rattle.std.proofs.Common.{◌<◌, arith}
use Rattle.std.proofs.lemmas.Result.{err_from_is_err_and}
use Rattle.server_verdicts.specs.Verdicts.{named_count}
use Rattle.server_verdicts.proofs.ToldVerdicts.{count_breaks_off, none_counted, one_counted}
use Rattle.load.proofs.tally.tell_begun.Goals as goal

pub loop-tenant-init : goal.loop-tenant-init
loop-tenant-init g c = none_counted _ _ _

pub loop-tenant-preserved : goal.loop-tenant-preserved
loop-tenant-preserved g c = one_counted _ _ _ _ _ _ _ _ c.count_begun-begun.ensures c.loop-tenant.invariant c.name_at.ensures c.in_ok-write_begun.ensures.ok

pub returns-in_err-write_begun : goal.returns-in_err-write_begun
returns-in_err-write_begun g c =
    let few : c.loop-tenant.tenant < named_count c.args.closed.now c.args.names.now = omega (arith, c.loop-tenant-test.true, c.min-tenant-end.ensures, c.len.ensures) in
    let p = err_from_is_err_and c.from_residual.result c.from_residual.ensures.1 in
    rw (p.1, p.2) (count_breaks_off c.args.closed.now c.args.names.now c.loop-tenant.tenant (g.W.Write.contents c.args.writer.now) (g.W.Write.contents c.loop-tenant.writer) (g.W.Write.contents c.write_begun.new.writer)
    c.name_at.result _ c.in_err-write_begun.field-0.0 c.count_begun-begun.ensures c.loop-tenant.invariant c.name_at.ensures few c.in_err-write_begun.ensures.err)

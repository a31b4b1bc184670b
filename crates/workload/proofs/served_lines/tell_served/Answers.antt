use Rattle.std.proofs.Common.{◌<◌, arith, length}
use Rattle.std.specs.Prelude.{min}
use Rattle.std.proofs.lemmas.Result.{err_from_is_err_and}
use Rattle.workload.specs.Unrecorded.{IsServedOf, served_line}
use Rattle.workload.proofs.ToldLines.{line_breaks_off, none_told, one_told}
use Rattle.workload.proofs.served_lines.tell_served.Goals as goal

pub loop-tenant-init : goal.loop-tenant-init
loop-tenant-init g c = none_told served_line IsServedOf _ _

pub loop-tenant-preserved : goal.loop-tenant-preserved
loop-tenant-preserved g c = one_told served_line IsServedOf _ _ _ _ _ _ _ c.served-counts.ensures c.loop-tenant.invariant c.name_at.ensures c.in_ok-write_served.ensures.ok

pub returns-in_err-write_served : goal.returns-in_err-write_served
returns-in_err-write_served g c =
    let few : c.loop-tenant.tenant < min c.args.tenants (length c.args.names.now) = omega (arith, c.loop-tenant-test.true, c.min-tenant-end.ensures) in
    let p = err_from_is_err_and c.from_residual.result c.from_residual.ensures.1 in
    rw (p.1, p.2) (line_breaks_off served_line IsServedOf c.args.tenants c.args.names.now c.loop-tenant.tenant (g.W.Write.contents c.args.writer.now) (g.W.Write.contents c.loop-tenant.writer) (g.W.Write.contents c.write_served.new.writer)
    c.name_at.result _ c.in_err-write_served.field-0.0 c.served-counts.ensures c.loop-tenant.invariant c.name_at.ensures few c.in_err-write_served.ensures.err)

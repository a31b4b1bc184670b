use Rattle.std.proofs.Common.{◌≡◌, ◌<◌, Some, arith, length, slice_get}
use Rattle.std.specs.Prelude.{min}
use Rattle.std.proofs.lemmas.Result.{err_from_is_err_and}
use Rattle.workload.specs.Amounts.{judged_line}
use Rattle.workload.proofs.ToldLines.{line_breaks_off, none_told, one_told}
use Rattle.workload.proofs.judged_lines.tell_judged.Goals as goal

pub loop-tenant-init : goal.loop-tenant-init
loop-tenant-init g c = none_told (judged_line c.args.with_operations) (λ tenant amount. slice_get c.args.amounts.now tenant ≡ Some amount) _ _

pub loop-tenant-preserved : goal.loop-tenant-preserved
loop-tenant-preserved g c =
    one_told (judged_line c.args.with_operations) (λ tenant amount. slice_get c.args.amounts.now tenant ≡ Some amount) _ _ _ _ _ _ _ c.amount_at-amount.ensures c.loop-tenant.invariant c.name_at.ensures c.in_ok-write_judged.ensures.ok

pub returns-in_err-write_judged : goal.returns-in_err-write_judged
returns-in_err-write_judged g c =
    let few : c.loop-tenant.tenant < min (length c.args.amounts.now) (length c.args.names.now) = omega (arith, c.loop-tenant-test.true, c.min-tenant-end.ensures) in
    let p = err_from_is_err_and c.from_residual.result c.from_residual.ensures.1 in
    rw (p.1, p.2) (line_breaks_off (judged_line c.args.with_operations) (λ tenant amount. slice_get c.args.amounts.now tenant ≡ Some amount) (length c.args.amounts.now) c.args.names.now c.loop-tenant.tenant
    (g.W.Write.contents c.args.writer.now) (g.W.Write.contents c.loop-tenant.writer) (g.W.Write.contents c.write_judged.new.writer) c.name_at.result c.amount_at-amount.result c.in_err-write_judged.field-0.0
    c.amount_at-amount.ensures c.loop-tenant.invariant c.name_at.ensures few c.in_err-write_judged.ensures.err)

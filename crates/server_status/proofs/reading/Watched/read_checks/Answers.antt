use Rattle.std.proofs.Common.{◌∙◌, ◌+◌, ℕ, [], ◌∷◌, ap, arith, length-append}
use Rattle.server_status.proofs.Rows.{checks_more}
use Rattle.server_status.proofs.reading.Watched.read_checks.Goals as goal

pub loop-tenant-preserved : goal.loop-tenant-preserved
loop-tenant-preserved g c =
    let so_far = c.loop-tenant.checks.items in
    let check = c.read_check.result in
    let here = c.loop-tenant.invariant.0 in
    rw c.in_ok-push.ensures.items (
      length-append so_far (check ∷ []) ∙ ap (λ (k : ℕ). k + 1) here,
      checks_more g.C.JournalChecks.has_told c.args.self.now c.args.partition 0 c.loop-tenant.tenant so_far check c.loop-tenant.invariant.1 (omega (arith, here)) c.read_check.ensures,
    )

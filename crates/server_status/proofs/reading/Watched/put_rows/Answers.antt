use Rattle.std.proofs.Common.{◌∙◌, ℕ, List, ap, arith, length, refl, subst, sym}
use Rattle.std.specs.Prelude.{slice_get}
use Rattle.std.proofs.lemmas.Option.{slice_get_read}
use Rattle.stamps.specs.declared.bounds.Limits.{Limits}
use Rattle.server_status.specs.Reported.{IsRowAt}
use Rattle.server_status.proofs.Rows.{rows_behind}
use Rattle.server_status.proofs.reading.Watched.put_rows.Goals as goal

pub loop-tenant-preserved : goal.loop-tenant-preserved
loop-tenant-preserved g c =
    let found = c.in-Some-Some-Some in
    let nth = c.loop-tenant.tenant in
    let row = c.row_of.result in
    let at = subst (λ (name : List ℕ). IsRowAt c.args.partition name found.limits.now found.progress.now row) c.text_of.ensures c.row_of.ensures.1 in
    let names = c.args.self.now.names.now in
    let all = c.limits-limits.result.now in
    let checks = c.args.checks.now in
    let named = slice_get_read names (length names) nth found.name.now refl found.ensures.lookup.3.0 (found.ensures.lookup.3.1 found.name.now) in
    let limited = ap (λ (limits : List Limits). slice_get limits nth) (sym c.limits-limits.ensures)
    ∙ slice_get_read all (length all) nth found.limits.now refl found.ensures'.lookup.3.0 (found.ensures'.lookup.3.1 found.limits.now) in
    let checked = slice_get_read checks (length checks) nth found.progress.now refl found.ensures''.lookup.3.0 (found.ensures''.lookup.3.1 found.progress.now) in
    rows_behind c.args.partition names c.args.self.now.hub.now.limits checks c.args.usages.now nth
    found.name.now found.limits.now found.progress.now _ c.args.rows.now.items c.loop-tenant.rows.items c.push.new.self.items row (omega arith)
    c.loop-tenant.invariant named limited checked c.row_of.ensures.0 at c.in_ok-push.ensures.items

use Rattle.std.proofs.Common.{◌≡◌, ◌∙◌, ◌≤◌, ◌<◌, ◌+◌, ℕ, List, [], ◌∷◌, Option, Some, IfSome, length, length-append, ap, arith, refl, subst, sym}
use Rattle.std.specs.Prelude.{slice_get}
use Rattle.std.proofs.lemmas.Option.{slice_get_read, slice_get_within}
use Rattle.stamps.specs.declared.bounds.Limits.{Limits}
use Rattle.server_status.specs.Reported.{IsClientRow}
use Rattle.server_status.proofs.Rows.{clients_more}
use Rattle.server_status.proofs.reading.Watched.read_clients.Goals as goal

pub loop-tenant-preserved : goal.loop-tenant-preserved
loop-tenant-preserved g c =
    let found = c.in-Some-Some in
    let nth = c.loop-tenant.tenant in
    let rows = c.loop-tenant.clients.items in
    let names = c.args.self.now.names.now in
    let all = c.args.self.now.hub.now.limits in
    let told = c.limits-limits.result.now in
    let row = c.client_row.result in
    let limited : slice_get all nth ≡ Some found.limits.now =
    ap (λ (limits : List Limits). slice_get limits nth) (sym c.limits-limits.ensures)
    ∙ slice_get_read told (length told) nth found.limits.now refl found.ensures'.lookup.3.0 (found.ensures'.lookup.3.1 found.limits.now) in
    let named = slice_get_read names (length names) nth found.name.now refl found.ensures.lookup.3.0 (found.ensures.lookup.3.1 found.name.now) in
    let few = subst (λ (its : Option Limits). IfSome its (λ (one : Limits). c.clients-used.result ≤ one.clients)) limited c.clients-used.ensures.few in
    let made = c.client_row.ensures in
    let is : IsClientRow found.name.now found.limits.now row = record { tenant = made.0; limit = made.2; few = rw made.1 few; refusals = rw made.3 c.in_ok-refusals.ensures } in
    let here = c.loop-tenant.invariant.so_far in
    let within : nth < length all = slice_get_within all nth found.limits.now limited in
    record {
      each = rw c.in_ok-push.ensures.items
          (clients_more names all rows found.name.now found.limits.now row c.loop-tenant.invariant.each
          (ap (λ (k : ℕ). slice_get names k) here ∙ named) (ap (λ (k : ℕ). slice_get all k) here ∙ limited) is);
      so_far = rw c.in_ok-push.ensures.items (length-append rows (row ∷ []) ∙ ap (λ (k : ℕ). k + 1) here);
      limited = omega (arith, within);
    }

-- One row more, behind those that were there.
use Rattle.std.proofs.Common.{◌≡◌, ◌≢◌, ◌∙◌, ℕ, ◌+◌, ◌<◌, ◌≤◌, List, [], ◌∷◌, ◌++◌, Option, Some, take, length, length-take-le, get_or, sym, ap, subst, append_assoc, add-one, arith}
use Rattle.std.specs.Prelude.{IfNone, IfSome, IsSomeAnd, None, slice_get, unwrap_or}
use Rattle.std.proofs.Math.Seq.{take-suc}
use Rattle.stamps.specs.declared.bounds.Limits.{Limits}
use Rattle.shard.specs.declared.usages.TenantUsage.{TenantUsage}
use Rattle.server_metrics.specs.declared.metrics.ClientRow.{ClientRow}
use Rattle.server_metrics.specs.declared.metrics.RefusalRow.{RefusalRow}
use Rattle.server_metrics.specs.declared.metrics.Row.{Row}
use Rattle.server_metrics.specs.declared.times.TimeRow.{TimeRow}
use Rattle.server_metrics.specs.TimesText.{AreRising}
use Rattle.server_verdicts.specs.declared.epochs.checked.CheckProgress.{CheckProgress}
use Rattle.server_status.specs.Reported.{AreChecksFrom, AreClientRows, AreRefusalRows, AreRowsBehind, AreRowsOf, IsCheckOf, IsClientRow, IsRowAt, IsRowOf, known_in}
use Rattle.history.specs.declared.rule.Naming.{Ghosts}
use Rattle.server_status.specs.declared.reading.Watched.{Watched}

-- what a list has at a place is one thing
same : {X : Type 0} (x y : X) → Some x ≡ Some y → y ≡ x
same x y there = sym (ap (λ found. unwrap_or found x) there)

-- one usage and its row more
rows_more : (partition : ℕ) (names : List (List ℕ)) (limits : List Limits) (checks : List (Option CheckProgress)) (usages : List TenantUsage) (rows : List Row)
    (name : List ℕ) (its : Limits) (progress : Option CheckProgress) (used : TenantUsage) (row : Row) → AreRowsOf partition names limits checks usages rows
    → slice_get names (length usages) ≡ Some name → slice_get limits (length usages) ≡ Some its → slice_get checks (length usages) ≡ Some progress
    → IsRowOf used row → IsRowAt partition name its progress row → AreRowsOf partition names limits checks (usages ++ used ∷ []) (rows ++ row ∷ [])
rows_more partition (n ∷ names) (l ∷ limits) (c ∷ checks) [] [] name its progress used row are named limited checked is at =
    let P : List ℕ → Type 0 = λ one. IsRowAt partition one its progress row in
    let Q : Limits → Type 0 = λ one. IsRowAt partition n one progress row in
    let R : Option CheckProgress → Type 0 = λ one. IsRowAt partition n l one row in
    (is, subst R (same c progress checked) (subst Q (same l its limited) (subst P (same n name named) at)), tt)
rows_more partition [] limits checks [] [] name its progress used row are named limited checked is at = cc
rows_more partition (n ∷ names) [] checks [] [] name its progress used row are named limited checked is at = cc
rows_more partition (n ∷ names) (l ∷ limits) [] [] [] name its progress used row are named limited checked is at = cc
rows_more partition names limits checks [] (r ∷ rows) name its progress used row are named limited checked is at = absurd are
rows_more partition [] limits checks (u ∷ usages) rows name its progress used row are named limited checked is at = absurd are
rows_more partition (n ∷ names) [] checks (u ∷ usages) rows name its progress used row are named limited checked is at = absurd are
rows_more partition (n ∷ names) (l ∷ limits) [] (u ∷ usages) rows name its progress used row are named limited checked is at = absurd are
rows_more partition (n ∷ names) (l ∷ limits) (c ∷ checks) (u ∷ usages) [] name its progress used row are named limited checked is at = absurd are
rows_more partition (n ∷ names) (l ∷ limits) (c ∷ checks) (u ∷ usages) (r ∷ rows) name its progress used row are named limited checked is at =
    (are.0, are.1, rows_more partition names limits checks usages rows name its progress used row are.2 named limited checked is at)

-- the same of rows behind others: for `put_rows`
pub rows_behind : (partition : ℕ) (names : List (List ℕ)) (limits : List Limits) (checks : List (Option CheckProgress)) (usages : List TenantUsage) (nth : ℕ)
    (name : List ℕ) (its : Limits) (progress : Option CheckProgress) (none : TenantUsage) (old now new : List Row) (row : Row) → nth < length usages
    → AreRowsBehind partition names limits checks (take nth usages) old now
    → slice_get names nth ≡ Some name → slice_get limits nth ≡ Some its → slice_get checks nth ≡ Some progress
    → IsRowOf (get_or usages nth none) row → IsRowAt partition name its progress row → new ≡ now ++ row ∷ []
    → AreRowsBehind partition names limits checks (take (nth + 1) usages) old new
rows_behind partition names limits checks usages nth name its progress none old now new row within (rows, behind, are) named limited checked is at pushed =
    let one : take (nth + 1) usages ≡ take nth usages ++ get_or usages nth none ∷ [] = ap (λ (k : ℕ). take k usages) (add-one nth) ∙ take-suc usages nth none within in
    let here : length (take nth usages) ≡ nth = length-take-le nth usages (omega (arith, within)) in (
      rows ++ row ∷ [],
      pushed ∙ ap (λ (l : List Row). l ++ row ∷ []) behind ∙ append_assoc old rows (row ∷ []),
      subst (λ (l : List TenantUsage). AreRowsOf partition names limits checks l (rows ++ row ∷ [])) (sym one)
          (rows_more partition names limits checks (take nth usages) rows name its progress (get_or usages nth none) row are
          (ap (λ (k : ℕ). slice_get names k) here ∙ named) (ap (λ (k : ℕ). slice_get limits k) here ∙ limited) (ap (λ (k : ℕ). slice_get checks k) here ∙ checked) is at),
    )

-- a tenant's clients more: for `read_clients`
pub clients_more : (names : List (List ℕ)) (limits : List Limits) (rows : List ClientRow) (name : List ℕ) (its : Limits) (row : ClientRow) → AreClientRows names limits rows
    → slice_get names (length rows) ≡ Some name → slice_get limits (length rows) ≡ Some its → IsClientRow name its row → AreClientRows names limits (rows ++ row ∷ [])
clients_more (n ∷ names) (l ∷ limits) [] name its row are named limited is =
    let P : List ℕ → Type 0 = λ one. IsClientRow one its row in
    let Q : Limits → Type 0 = λ one. IsClientRow n one row in
    (subst Q (same l its limited) (subst P (same n name named) is), tt)
clients_more [] limits [] name its row are named limited is = cc
clients_more (n ∷ names) [] [] name its row are named limited is = cc
clients_more [] limits (r ∷ rows) name its row are named limited is = absurd are
clients_more (n ∷ names) [] (r ∷ rows) name its row are named limited is = absurd are
clients_more (n ∷ names) (l ∷ limits) (r ∷ rows) name its row are named limited is =
    (are.0, clients_more names limits rows name its row are.1 named limited is)

-- a refusal more, or none of this number: for `read_refusals`
pub refusals_more : (from below : ℕ) (rows : List RefusalRow) (row : RefusalRow) → AreRefusalRows from below rows → row.number ≡ below → below ≢ 12 → 0 < row.lines
    → AreRefusalRows from (below + 1) (rows ++ row ∷ [])
refusals_more from below [] row are is other some = (omega (arith, are, is), subst (λ (k : ℕ). k ≢ 12) (sym is) other, some, omega (arith, is))
refusals_more from below (r ∷ rows) row are is other some = (are.0, are.1, are.2, refusals_more (r.number + 1) below rows row are.3 is other some)

pub refusals_wider : (from below : ℕ) (rows : List RefusalRow) → AreRefusalRows from below rows → AreRefusalRows from (below + 1) rows
refusals_wider from below [] are = omega (arith, are)
refusals_wider from below (r ∷ rows) are = (are.0, are.1, are.2, refusals_wider (r.number + 1) below rows are.3)

-- what the journal told, or none where there is none: for `read_check`
pub check_is : {C : Type 0} (HasTold : C → CheckProgress → Type 0) (its : Option C) (check : Option CheckProgress)
    → IfSome check (λ progress. IsSomeAnd its (λ one. HasTold one progress)) → IfNone check (its ≡ None) → IsCheckOf HasTold its check
check_is HasTold (Some its) (Some progress) told none = told
check_is HasTold None (Some progress) told none = absurd told
check_is HasTold (Some its) None told none = cc
check_is HasTold None None told none = tt

-- a tenant's check more: for `read_checks`
pub checks_more : {J C : Type 0} {naming : Ghosts J} (HasTold : C → CheckProgress → Type 0) (watched : Watched J C naming) (partition first nth : ℕ) (checks : List (Option CheckProgress)) (check : Option CheckProgress)
    → AreChecksFrom HasTold watched partition first checks → first + length checks ≡ nth → IsCheckOf HasTold (known_in watched.known partition nth) check
    → AreChecksFrom HasTold watched partition first (checks ++ check ∷ [])
checks_more HasTold watched partition first nth [] check are here is =
    let at : nth ≡ first = omega (arith, here) in
    (subst (λ (k : ℕ). IsCheckOf HasTold (known_in watched.known partition k) check) at is, tt)
checks_more HasTold watched partition first nth (c ∷ checks) check are here is =
    (are.0, checks_more HasTold watched partition (first + 1) nth checks check are.1 (omega (arith, here)) is)

-- a class more, with the lines of those before it: for `read_times`
pub rising_more : (before all now : ℕ) (rows : List TimeRow) (row : TimeRow) → AreRising before rows all → row.lines ≡ now → all ≤ now → AreRising before (rows ++ row ∷ []) now
rising_more before all now [] row are is more = (omega (arith, are, is, more), is)
rising_more before all now (r ∷ rows) row are is more = (are.0, rising_more r.lines all now rows row are.1 is more)

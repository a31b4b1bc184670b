-- How many journals are long: for `Search::cut_next`.
use Rattle.std.proofs.Common.{◌≡◌, ◌<◌, ◌≤◌, ◌+◌, ◌-◌, ℕ, suc, List, length, refl, ap, ◌∙◌, arith}
use Rattle.std.specs.Prelude.{cond, nat_le}
use Rattle.std.proofs.lemmas.Bool.Decides.{nat_tests}
use Rattle.partition.specs.Accounts.{Account, events_at}
use Rattle.shard.specs.Rounds.{long_among}

-- one journal more
long_next : (least : ℕ) (accounts : List Account) (from tenant : ℕ) → from ≤ tenant
    → long_among least accounts from (tenant + 1 - from)
    ≡ long_among least accounts from (tenant - from) + cond (nat_le least (length (events_at accounts tenant))) 1 0
long_next least accounts from tenant behind =
    let one : tenant + 1 - from ≡ suc (tenant - from) = omega arith in
    let same : from + (tenant - from) ≡ tenant = omega arith in
    rw one (rw same refl)

-- one that is short
pub long_short : (least : ℕ) (accounts : List Account) (from tenant refused : ℕ) → from ≤ tenant → length (events_at accounts tenant) < least
    → refused ≡ long_among least accounts from (tenant - from) → refused ≡ long_among least accounts from (tenant + 1 - from)
long_short least accounts from tenant refused behind short so_far =
    let next = long_next least accounts from tenant behind in
    grind (arith, nat_tests)

-- one that is long
pub long_refused : (least : ℕ) (accounts : List Account) (from tenant refused : ℕ) → from ≤ tenant → least ≤ length (events_at accounts tenant)
    → refused ≡ long_among least accounts from (tenant - from) → refused + 1 ≡ long_among least accounts from (tenant + 1 - from)
long_refused least accounts from tenant refused behind long so_far =
    let next = long_next least accounts from tenant behind in
    grind (arith, nat_tests)

-- all of them
pub long_all : (least : ℕ) (accounts : List Account) (from tenant end refused : ℕ) → tenant - from ≤ end - from → end ≤ tenant
    → refused ≡ long_among least accounts from (tenant - from) → refused ≡ long_among least accounts from (end - from)
long_all least accounts from tenant end refused within past so_far =
    let same : tenant - from ≡ end - from = omega arith in
    so_far ∙ ap (long_among least accounts from) same

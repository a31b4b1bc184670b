use Rattle.std.proofs.Common.{ℕ, rules}
use Rattle.std.proofs.lemmas.Cmp.{nat_cmp_total}
use Rattle.std.proofs.lemmas.Fn.{always_returns_same}
use Rattle.std.specs.FinMap.{nat_cmp-IsAntisymmetric}
use Rattle.std.specs.Ordering.{nat_cmp}
use Rattle.stamps.specs.Stamp.{client_of}
use Rattle.secondary_index.proofs.Ordered.{searched}
use Rattle.prepare_commit.specs.Marks.{mark_row}
use Rattle.prepare_commit.proofs.marks.search.Goals as goal

pub returns : goal.returns
returns c =
    let found = c.binary_search_by.ensures in
    searched nat_cmp nat_cmp_total nat_cmp-IsAntisymmetric mark_row c.args.marks.now c.args.client c.binary_search_by.result c.requires found.bound
    (found.position (λ (s : ℕ). nat_cmp (client_of s) c.args.client) (always_returns_same _ _ _ (λ a r f called. search rules)))

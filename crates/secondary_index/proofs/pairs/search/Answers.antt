use Rattle.std.proofs.Common.{rules}
use Rattle.std.proofs.lemmas.Fn.{always_returns_same}
use Rattle.secondary_index.specs.declared.pairs.Pair.{Pair}
use Rattle.secondary_index.specs.Layout.{pair_cmp, pair_row}
use Rattle.secondary_index.proofs.Ordered.{searched}
use Rattle.secondary_index.proofs.Members.{pair_total, pair_same}
use Rattle.secondary_index.proofs.pairs.search.Goals as goal

pub returns : goal.returns
returns c =
    let found = c.binary_search_by.ensures in
    searched pair_cmp pair_total pair_same pair_row c.args.pairs.now.items c.args.pair.now c.binary_search_by.result c.requires found.bound
    (found.position (λ (p : Pair). pair_cmp p c.args.pair.now) (always_returns_same _ _ _ (λ a r f called. search rules)))

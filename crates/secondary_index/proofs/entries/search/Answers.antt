use Rattle.std.proofs.Common.{rules}
use Rattle.std.proofs.lemmas.Fn.{always_returns_same}
use Rattle.stamps.specs.Key.{key_cmp}
use Rattle.stamps.proofs.KeyLemmas.{key_cmp_total, key_cmp-Equal}
use Rattle.secondary_index.specs.declared.entries.TaggedKey.{TaggedKey}
use Rattle.secondary_index.specs.Layout.{entry_row}
use Rattle.secondary_index.proofs.Ordered.{searched}
use Rattle.secondary_index.proofs.entries.search.Goals as goal

pub returns : goal.returns
returns c =
    let found = c.binary_search_by.ensures in
    searched key_cmp key_cmp_total key_cmp-Equal entry_row c.args.entries.now.items c.args.key.now c.binary_search_by.result c.requires found.bound
    (found.position (λ (e : TaggedKey). key_cmp e.key c.args.key.now) (always_returns_same _ _ _ (λ a r f called. search rules)))

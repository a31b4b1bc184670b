use Rattle.std.proofs.Common.{arith}
use Rattle.stamps.specs.Key.{key_cmp}
use Rattle.stamps.proofs.KeyLemmas.{key_cmp_total, key_cmp-Equal}
use Rattle.secondary_index.specs.Layout.{entry_row}
use Rattle.secondary_index.proofs.Ordered.{between}
use Rattle.secondary_index.proofs.entries.belongs_at.Goals as goal

pub returns : goal.returns
returns c below =
    between key_cmp key_cmp_total key_cmp-Equal entry_row c.args.entries.now.items c.args.key.now c.args.place c.requires (omega (arith, c.if-place-len.false, c.len.ensures))
    (λ k d last. c.is_above.ensures c.if-not-is_above.false k d last) (λ d within. c.is_below.ensures below d within)

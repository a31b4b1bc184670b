use Rattle.std.proofs.Common.{◌∙◌, rules}
use Rattle.std.specs.Ordering.{nat_cmp}
use Rattle.stamps.proofs.WordLemmas.{word_order}
use Rattle.stamps.proofs.text.word_cmp.Goals as goal

pub returns : goal.returns
returns c =
    c.cmp.ensures
    ∙ (λ i. nat_cmp (c.from_be_bytes.ensures i) (c.from_be_bytes-2.ensures i))
    ∙ word_order c.args.left.now c.args.right.now (search rules) (search rules) (search rules) (search rules)

use Rattle.std.proofs.Common.{ap, ◌∙◌}
use Rattle.std.proofs.Common.{arith}
use Rattle.std.proofs.lemmas.Grind.{common_steps}
use Rattle.secondary_index.specs.Layout.{has_pair}
use Rattle.secondary_index.proofs.Members.{added_order, added_members, was_there, stands_somewhere}
use Rattle.secondary_index.proofs.pairs.put_in.Goals as goal

pub returns-in-Err-clause-order : goal.returns-in-Err-clause-order
returns-in-Err-clause-order c = rw c.insert.ensures.items (added_order c.args.pairs.now.items c.in-Err.index c.args.tag c.args.key.now c.in-Err.ensures c.requires.order)

pub returns-in-Err-clause-members : goal.returns-in-Err-clause-members
returns-in-Err-clause-members c p =
    ap (λ ps. has_pair ps p) c.insert.ensures.items ∙ added_members c.args.pairs.now.items c.in-Err.index c.args.tag c.args.key.now c.in-Err.ensures (grind (arith, common_steps)) p

pub returns-in_default-clause-members : goal.returns-in_default-clause-members
returns-in_default-clause-members c p =
    let at = stands_somewhere _ _ c.search.result c.search.ensures c.in_default.not-Err in
    let there = was_there c.args.pairs.now.items at.0 c.args.tag c.args.key.now c.requires.order at.1 in
    let none = c.requires.new in
    cc

pub returns-in_default-clause-len : goal.returns-in_default-clause-len
returns-in_default-clause-len c =
    let at = stands_somewhere _ _ c.search.result c.search.ensures c.in_default.not-Err in
    let there = was_there c.args.pairs.now.items at.0 c.args.tag c.args.key.now c.requires.order at.1 in
    let none = c.requires.new in
    cc

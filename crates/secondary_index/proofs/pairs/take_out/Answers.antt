use Rattle.std.proofs.Common.{◌&&◌, not, ap, sym, ◌∙◌, arith}
use Rattle.secondary_index.specs.Layout.{has_pair, has_own, is_pair}
use Rattle.secondary_index.proofs.Members.{taken_order, taken_members, was_there, was_not_there, not_missed, belongs_somewhere}
use Rattle.secondary_index.proofs.pairs.take_out.Goals as goal

pub returns-in-Ok-clause-order : goal.returns-in-Ok-clause-order
returns-in-Ok-clause-order c = rw c.remove.ensures.items (taken_order c.args.pairs.now.items c.in-Ok.index c.in-Some.tag c.args.key.now c.requires c.in-Ok.ensures)

pub returns-in-Ok-clause-members : goal.returns-in-Ok-clause-members
returns-in-Ok-clause-members c p =
    ap (λ ps. has_pair ps p) c.remove.ensures.items ∙ taken_members c.args.pairs.now.items c.in-Ok.index c.in-Some.tag c.args.key.now c.requires c.in-Ok.ensures p
    ∙ ap (λ tag. has_pair c.args.pairs.now.items p && not (is_pair c.args.key.now tag p)) (sym c.in-Some.is)

pub returns-in-Ok-clause-len : goal.returns-in-Ok-clause-len
returns-in-Ok-clause-len c =
    let there = ap (has_own c.args.pairs.now.items c.args.key.now) c.in-Some.is ∙ was_there c.args.pairs.now.items c.in-Ok.index c.in-Some.tag c.args.key.now c.requires c.in-Ok.ensures in
    rw there c.remove.ensures.len

pub returns-in_default-search-clause-members : goal.returns-in_default-search-clause-members
returns-in_default-search-clause-members c p =
    let at = belongs_somewhere _ _ c.search.result c.search.ensures c.in_default-search.not-Ok in
    not_missed c.args.pairs.now.items c.args.key.now c.in-Some.tag (was_not_there c.args.pairs.now.items at.0 c.in-Some.tag c.args.key.now at.1) p
    ∙ ap (λ tag. has_pair c.args.pairs.now.items p && not (is_pair c.args.key.now tag p)) (sym c.in-Some.is)

pub returns-in_default-search-clause-len : goal.returns-in_default-search-clause-len
returns-in_default-search-clause-len c =
    let at = belongs_somewhere _ _ c.search.result c.search.ensures c.in_default-search.not-Ok in
    let none = ap (has_own c.args.pairs.now.items c.args.key.now) c.in-Some.is ∙ was_not_there c.args.pairs.now.items at.0 c.in-Some.tag c.args.key.now at.1 in
    rw none (omega arith)

use Rattle.std.proofs.Common.{◌≡◌, ◌≤◌, map, length, take, drop, ap, sym, ◌∙◌, arith}
use Rattle.std.proofs.lemmas.List.{take-take}
use Rattle.std.proofs.lemmas.List.Sums.{count_by-le-length}
use Rattle.plain_store.specs.Words.{Findings}
use Rattle.secondary_index.specs.declared.pairs.Pair.{Pair}
use Rattle.secondary_index.specs.Index.{findings_of, keys_under}
use Rattle.secondary_index.specs.Layout.{tags_of, is_tagged_entry}
use Rattle.secondary_index.proofs.Findings.{findings-last_set}
use Rattle.secondary_index.proofs.Setting.{tags_are}
use Rattle.secondary_index.proofs.Telling.{nothing_told, copied_is, copied_IsFound, under_at_most, so_many}
use Rattle.secondary_index.proofs.tag_index.TagIndex.under_counted.Goals as goal
use Rattle.secondary_index.proofs.tag_index.TagIndex.under_counted.Goals.{After-under-first, After-copy_keys}

-- what the index reports is what its entries' map reports
told_of : (c : After-under-first) → ◌≡◌ {A = Findings} (findings_of (keys_under (tags_of c.self.inside.entries.items) c.args.tag.now)) (findings_of (keys_under c.args.self.now.tags c.args.tag.now))
told_of c = ap (λ tags. findings_of (keys_under tags c.args.tag.now)) (tags_are c.args.self.now c.self.inside.room c.self.inside.entries.items c.self.invariant.0.in_order c.self.view_is)

long : (c : After-under-first) → length (take c.under-first.result.1 (drop c.under-first.result.0 c.self.inside.pairs.items)) ≡ c.under-first.result.1
long c = so_many c.self.inside.pairs.items c.under-first.result.0 c.under-first.result.1 c.under-first.ensures.within

pub returns-then-count-eq0-clause-value : goal.returns-then-count-eq0-clause-value
returns-then-count-eq0-clause-value c =
    let a = (goal.at.returns-then-count-eq0-clause-value c).After-under-first in
    c.new.ensures ∙ nothing_told c.self.inside.entries.items c.self.inside.pairs.items c.self.invariant.0 c.args.tag.now _ c.under-first.ensures.pairs (omega (arith, long a)) ∙ told_of a

pub returns-then-count-eq0-clause-law : goal.returns-then-count-eq0-clause-law
returns-then-count-eq0-clause-law c settings was = returns-then-count-eq0-clause-value c ∙ findings-last_set c.args.self.now.tags c.args.tag.now settings was

few : (c : After-under-first) → c.under-first.result.1 ≤ c.self.inside.room
few c =
    let entries = c.self.inside.entries in
    let pairs = c.self.inside.pairs.items in
    omega (arith, long c, ap length c.under-first.ensures.pairs, under_at_most c.args.tag.now pairs, c.self.invariant.0.as_many, count_by-le-length is_tagged_entry entries.items, c.self.invariant.1)

pub overflow_cast-count : goal.overflow_cast-count
overflow_cast-count c = omega (arith, few (goal.at.overflow_cast-count c).After-under-first, c.self.invariant.4)

pub copy_keys-requires-clause-short : goal.copy_keys-requires-clause-short
copy_keys-requires-clause-short c =
    let entries = c.self.inside.entries in
    omega (arith, c.self.invariant.0.as_many, count_by-le-length is_tagged_entry entries.items, c.self.invariant.1, c.self.invariant.4)

-- the keys that were copied are those of the first pairs with the tag
copied : (c : After-copy_keys) → take c.min-told.result c.copy_keys.new.keys ≡ map (λ (p : Pair). p.key) (take c.min-told.result (take c.under-first.result.1 (drop c.under-first.result.0 c.self.inside.pairs.items)))
copied c =
    c.copy_keys.ensures.keys
    ∙ ap (map (λ (p : Pair). p.key)) (sym (take-take c.min-told.result c.under-first.result.1 (drop c.under-first.result.0 c.self.inside.pairs.items) (omega (arith, c.min-told.ensures))))

pub new-requires-2 : goal.new-requires-2
new-requires-2 c =
    copied_IsFound c.self.inside.entries.items c.self.inside.pairs.items c.self.invariant.0 c.args.tag.now _ c.under-first.result.1 c.min-told.result c.copy_keys.new.keys c.under-first.ensures.pairs
    (sym (long (goal.at.new-requires-2 c).After-under-first)) c.min-told.ensures (copied (goal.at.new-requires-2 c).After-copy_keys)

pub returns-clause-value : goal.returns-clause-value
returns-clause-value c =
    let a = (goal.at.returns-clause-value c).After-under-first in
    c.new-2.ensures
    ∙ copied_is c.self.inside.entries.items c.self.inside.pairs.items c.self.invariant.0 c.args.tag.now _ c.under-first.result.1 c.min-told.result c.copy_keys.new.keys c.under-first.ensures.pairs (sym (long a)) c.min-told.ensures
    (copied (goal.at.returns-clause-value c).After-copy_keys)
    ∙ told_of a

pub returns-clause-law : goal.returns-clause-law
returns-clause-law c settings was = returns-clause-value c ∙ findings-last_set c.args.self.now.tags c.args.tag.now settings was

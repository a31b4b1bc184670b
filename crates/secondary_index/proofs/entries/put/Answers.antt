use Rattle.std.proofs.Common.{◌≡◌, inl, inr, is_some, Some, ap, sym, ◌∙◌}
use Rattle.std.specs.FinMap as map
use Rattle.std.specs.FinMap.{entries}
use Rattle.stamps.specs.Key.{key_cmp}
use Rattle.stamps.proofs.KeyLemmas.{key_cmp_total, key_cmp-Equal}
use Rattle.secondary_index.specs.declared.entries.TaggedKey.{TaggedKey}
use Rattle.secondary_index.specs.Layout.{entry_row, tags_of}
use Rattle.std.proofs.Common.{map as each}
use Rattle.secondary_index.proofs.Ordered.{put-StandsAt, put-BelongsAt, find-StandsAt, find-BelongsAt, get-map_of, entries_put, in_order_as, map_of_as}
use Rattle.secondary_index.proofs.entries.put.Goals as goal
use Rattle.secondary_index.proofs.entries.put.Goals.{After-set, After-insert}

-- the rows after a change, and after an insertion
changed : (c : After-set) → entries (map.insert (tags_of c.args.entries.now.items) c.args.entry.key c.args.entry.tag) ≡ each entry_row c.set.new.self.items
changed c = entries_put key_cmp key_cmp_total key_cmp-Equal entry_row c.args.entries.now.items _ c.args.entry.key c.args.entry.tag c.requires.order
    (put-StandsAt key_cmp key_cmp_total key_cmp-Equal entry_row c.args.entries.now.items c.in-Ok.index c.args.entry c.requires.order c.in-Ok.ensures ∙ sym (ap (each entry_row) c.set.ensures.items))

added : (c : After-insert) → entries (map.insert (tags_of c.args.entries.now.items) c.args.entry.key c.args.entry.tag) ≡ each entry_row c.insert.new.self.items
added c = entries_put key_cmp key_cmp_total key_cmp-Equal entry_row c.args.entries.now.items _ c.args.entry.key c.args.entry.tag c.requires.order
    (put-BelongsAt key_cmp key_cmp_total key_cmp-Equal entry_row c.args.entries.now.items c.in-Err.index c.args.entry c.in-Err.ensures ∙ sym (ap (each entry_row) c.insert.ensures.items))

pub insert-requires-clause-room : goal.insert-requires-clause-room
insert-requires-clause-room c =
    let none = get-map_of key_cmp key_cmp_total key_cmp-Equal entry_row c.args.entries.now.items c.requires.order c.args.entry.key
    ∙ find-BelongsAt key_cmp key_cmp_total key_cmp-Equal entry_row c.args.entries.now.items c.in-Err.index c.args.entry.key c.in-Err.ensures in
    elim c.requires.room [
      | inl known ↦ absurd (let no = ap is_some none in cc)
      | inr left ↦ left
    ]

pub returns-in-Ok-clause-order : goal.returns-in-Ok-clause-order
returns-in-Ok-clause-order c = in_order_as key_cmp key_cmp_total key_cmp-Equal entry_row _ _ (changed (goal.at.returns-in-Ok-clause-order c).After-set)

pub returns-in-Ok-clause-tags : goal.returns-in-Ok-clause-tags
returns-in-Ok-clause-tags c = map_of_as key_cmp key_cmp_total key_cmp-Equal entry_row _ _ (changed (goal.at.returns-in-Ok-clause-tags c).After-set)

pub returns-in-Ok-clause-old : goal.returns-in-Ok-clause-old
returns-in-Ok-clause-old c =
    ap (λ (e : TaggedKey). Some e.tag) c.get.ensures
    ∙ sym (get-map_of key_cmp key_cmp_total key_cmp-Equal entry_row c.args.entries.now.items c.requires.order c.args.entry.key
    ∙ find-StandsAt key_cmp key_cmp_total key_cmp-Equal entry_row c.args.entries.now.items c.in-Ok.index c.args.entry.key c.requires.order c.in-Ok.ensures c.get.result.now)

pub returns-in-Err-clause-order : goal.returns-in-Err-clause-order
returns-in-Err-clause-order c = in_order_as key_cmp key_cmp_total key_cmp-Equal entry_row _ _ (added c)

pub returns-in-Err-clause-tags : goal.returns-in-Err-clause-tags
returns-in-Err-clause-tags c = map_of_as key_cmp key_cmp_total key_cmp-Equal entry_row _ _ (added c)

pub returns-in-Err-clause-old : goal.returns-in-Err-clause-old
returns-in-Err-clause-old c =
    sym (get-map_of key_cmp key_cmp_total key_cmp-Equal entry_row c.args.entries.now.items c.requires.order c.args.entry.key
    ∙ find-BelongsAt key_cmp key_cmp_total key_cmp-Equal entry_row c.args.entries.now.items c.in-Err.index c.args.entry.key c.in-Err.ensures)

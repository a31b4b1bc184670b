use Rattle.std.proofs.Common.{List, length, sym, ap, ◌∙◌}
use Rattle.prepare_commit.specs.declared.items.KnownItem.{KnownItem}
use Rattle.prepare_commit.proofs.Floors.{entries_long}
use Rattle.prepare_commit.proofs.part_entries.PartEntries.len.Goals as goal

pub returns : goal.returns
returns c =
    let l = c.self.inside in
    c.len.ensures ∙ l.floors.ok.0 ∙ sym (entries_long l.keys.items l.floors.items c.self.invariant.1) ∙ ap (λ (es : List KnownItem). length es) c.self.view_is

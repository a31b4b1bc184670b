use Rattle.std.proofs.Common.{◌≡◌, length, sym, ap, ◌∙◌, arith}
use Rattle.entry_list.specs.PackedEntries.{EntriesView}
use Rattle.entry_list.proofs.Unpacked.{as_many}
use Rattle.entry_list.proofs.packed_entries.EntryList.len.Goals as goal

pub returns-clause-count : goal.returns-clause-count
returns-clause-count c =
    let pieces = c.self.inside.list.items in
    c.len.ensures.count ∙ sym (as_many pieces) ∙ ap (λ (h : EntriesView). length h.items) c.self.view_is

pub returns-clause-few : goal.returns-clause-few
returns-clause-few c =
    let pieces = c.self.inside.list.items in
    let many : length c.args.self.now.items ≡ length pieces = ap (λ (h : EntriesView). length h.items) (sym c.self.view_is) ∙ as_many pieces in
    let few = c.len.ensures.few in
    omega (arith, many, few)

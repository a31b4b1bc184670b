use Rattle.std.proofs.Common.{◌≡◌, ◌<◌, ℕ, length, sym, ap, subst, ◌∙◌}
use Rattle.std.specs.Prelude.{slice_get}
use Rattle.std.specs.Option.{option_map}
use Rattle.entry_list.specs.PackedEntries.{EntriesView, entry_in}
use Rattle.entry_list.proofs.Unpacked.{as_many, packed_there, entry_there}
use Rattle.entry_list.proofs.packed_entries.EntryList.packed.Goals as goal

pub get-requires : goal.get-requires
get-requires c =
    let pieces = c.self.inside.list.items in
    let many : length c.args.self.now.items ≡ length pieces = ap (λ (h : EntriesView). length h.items) (sym c.self.view_is) ∙ as_many pieces in
    subst (λ (n : ℕ). c.args.at < n) many c.requires

pub returns-clause-packed : goal.returns-clause-packed
returns-clause-packed c = packed_there c.self.inside.list.items c.args.at c.get.result.now c.self.invariant.0 c.get.ensures

pub returns-clause-entry : goal.returns-clause-entry
returns-clause-entry c =
    ap (option_map entry_in) c.get.ensures ∙ sym (entry_there c.self.inside.list.items c.args.at) ∙ ap (λ (h : EntriesView). slice_get h.items c.args.at) c.self.view_is

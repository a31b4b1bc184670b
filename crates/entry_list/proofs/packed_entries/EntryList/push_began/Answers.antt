use Rattle.std.proofs.Common.{◌≡◌, List, ℕ, [], ◌∷◌, ◌++◌, ap, ◌∙◌, arith}
use Rattle.entry_list.specs.declared.kinds.Entry.TheVariants.{Began}
use Rattle.entry_list.specs.PackedEntries.{packed_entry, EntriesView}
use Rattle.entry_list.specs.LentActs.{act_lent}
use Rattle.entry_list.proofs.Unpacked.{still_packed, grown}
use Rattle.entry_list.proofs.packed_entries.EntryList.push_began.Goals as goal

pub invariant_of-self-2 : goal.invariant_of-self-2
invariant_of-self-2 c =
    let e = Began (act_lent c.args.act.now) in
    let bytes = c.as_slice-entry.result.now in
    let is : bytes ≡ packed_entry e = c.as_slice-entry.ensures.value ∙ c.in_ok-put_began.ensures.packed ∙ ap (λ (t : List ℕ). t ++ packed_entry e) c.clear.ensures.items in
    let more = c.push_reserved.ensures.items ∙ ap (λ (ps : List (List ℕ)). ps ++ bytes ∷ []) c.in_ok-reserve.ensures.items in (
      still_packed c.self.inside.list.items c.push_reserved.new.self.items e bytes c.self.invariant.0 c.in_ok-put_began.ensures.stored is more,
      omega (arith, c.push_reserved.ensures.places, c.in_ok-reserve.ensures.places),
      omega (arith, c.push_reserved.ensures.bytes, c.in_ok-reserve.ensures.bytes, c.as_slice-entry.ensures.len),
    )

pub returns-clause-ok : goal.returns-clause-ok
returns-clause-ok c =
    let e = Began (act_lent c.args.act.now) in
    let bytes = c.as_slice-entry.result.now in
    let is : bytes ≡ packed_entry e = c.as_slice-entry.ensures.value ∙ c.in_ok-put_began.ensures.packed ∙ ap (λ (t : List ℕ). t ++ packed_entry e) c.clear.ensures.items in
    let more = c.push_reserved.ensures.items ∙ ap (λ (ps : List (List ℕ)). ps ++ bytes ∷ []) c.in_ok-reserve.ensures.items in
    grown c.self.inside.list.items c.push_reserved.new.self.items e bytes c.in_ok-put_began.ensures.stored is more
    ∙ ap (λ (v : EntriesView). v.items ++ e ∷ []) c.self.view_is

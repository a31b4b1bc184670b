use Rattle.std.proofs.Common.{◌∷◌, ◌++◌, List, ℕ, [], refl, ap, ◌∙◌, arith}
use Rattle.plain_store.specs.declared.step.Act.TheVariants.{Hello, Stop}
use Rattle.entry_list.specs.declared.kinds.Entry.TheVariants.{Began}
use Rattle.entry_list.specs.PackedEntries.{packed_entry, EntriesView}
use Rattle.entry_list.specs.Raises.{raise_entries}
use Rattle.entry_list.proofs.Unpacked.{grown_twice, packed_twice}
use Rattle.entry_list.proofs.packed_entries.EntryList.push_raise.Goals as goal

pub invariant_of-self-2 : goal.invariant_of-self-2
invariant_of-self-2 c =
    let stop = Began (Stop c.args.client) in
    let hello = Began (Hello c.args.client c.args.counter) in (
      packed_twice c.self.inside.list.items c.push_packed.new.self.items c.push_packed-2.new.self.items stop hello
          (packed_entry stop) (packed_entry hello) c.push_packed.ensures.stored c.push_packed-2.ensures.stored refl refl
          (c.push_packed.ensures.items ∙ ap (λ (ps : List (List ℕ)). ps ++ packed_entry stop ∷ []) c.in_ok-reserve.ensures.items)
          c.push_packed-2.ensures.items c.self.invariant.0,
      omega arith,
      omega arith,
    )

pub returns-clause-ok : goal.returns-clause-ok
returns-clause-ok c =
    let stop = Began (Stop c.args.client) in
    let hello = Began (Hello c.args.client c.args.counter) in
    grown_twice c.self.inside.list.items c.push_packed.new.self.items c.push_packed-2.new.self.items stop hello
    (packed_entry stop) (packed_entry hello) c.push_packed.ensures.stored c.push_packed-2.ensures.stored refl refl
    (c.push_packed.ensures.items ∙ ap (λ (ps : List (List ℕ)). ps ++ packed_entry stop ∷ []) c.in_ok-reserve.ensures.items)
    c.push_packed-2.ensures.items
    ∙ ap (λ (v : EntriesView). v.items ++ raise_entries c.args.client c.args.counter) c.self.view_is

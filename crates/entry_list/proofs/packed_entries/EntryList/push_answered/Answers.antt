use Rattle.std.proofs.Common.{◌≡◌, ◌*◌, ◌≤◌, [], ◌∷◌, ◌++◌, refl, ap, ◌∙◌, arith}
use Rattle.entry_list.specs.declared.kinds.Entry.TheVariants.{Answered}
use Rattle.entry_list.specs.PackedEntries.{packed_entry, EntriesView}
use Rattle.entry_list.specs.Sizes.{max_took_bytes}
use Rattle.entry_list.proofs.Unpacked.{still_packed, grown}
use Rattle.entry_list.proofs.packed_entries.EntryList.push_answered.Goals as goal

pub push_packed-requires-clause-bytes : goal.push_packed-requires-clause-bytes
push_packed-requires-clause-bytes c =
    let room : c.self.inside.room ≡ c.args.self.now.room = ap (λ (v : EntriesView). v.room) c.self.view_is in
    let left : max_took_bytes * c.self.inside.room ≤ c.self.inside.list.bytes = c.self.invariant.2 in
    omega (arith, left, room, c.requires)

pub invariant_of-self : goal.invariant_of-self
invariant_of-self c =
    let e = Answered c.args.answer.now in
    let inv = c.self.invariant in
    let room : c.self.inside.room ≡ c.args.self.now.room = ap (λ (v : EntriesView). v.room) c.self.view_is in
    let some = c.requires in
    let places : c.self.inside.room ≤ c.self.inside.list.places = inv.1 in
    let left : max_took_bytes * c.self.inside.room ≤ c.self.inside.list.bytes = inv.2 in (
      still_packed c.self.inside.list.items c.push_packed.new.self.items e (packed_entry e) inv.0 c.push_packed.ensures.stored refl c.push_packed.ensures.items,
      omega (arith, places, c.push_packed.ensures.places),
      omega (arith, left, room, some, c.push_packed.ensures.bytes),
    )

pub returns-clause-items : goal.returns-clause-items
returns-clause-items c =
    let e = Answered c.args.answer.now in
    grown c.self.inside.list.items c.push_packed.new.self.items e (packed_entry e) c.push_packed.ensures.stored refl c.push_packed.ensures.items
    ∙ ap (λ (v : EntriesView). v.items ++ e ∷ []) c.self.view_is

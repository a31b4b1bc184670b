use Rattle.std.proofs.Common.{◌≡◌, ℕ, List, length, subst, sym, ap, ◌∙◌, arith}
use Rattle.version_chain.specs.declared.stamp_list.Kept.{Kept}
use Rattle.version_chain.specs.Heads.{Heads}
use Rattle.version_chain.specs.declared.version.Version.{Version}
use Rattle.version_chain.specs.Changes.{ChangesChain, HasChain, HasRoomFor, HaveOneMore}
use Rattle.version_chain.specs.Listed.{held_at, IsListedInto, with_kept}
use Rattle.version_chain.specs.Place.{IsPlace}
use Rattle.version_chain.proofs.Changing.{changes_from, changes_listed, more_from, more_listed, place_beside, room_beside}
use Rattle.version_chain.proofs.Listing.{lists_put, stands_with}
use Rattle.version_chain.proofs.chains.Chains.enter.Goals as goal

pub tidy-requires : goal.tidy-requires
tidy-requires c = record { stands = c.requires.chain.stands; list = c.requires.list; room = c.requires.room.room }

pub link-slot-requires : goal.link-slot-requires
link-slot-requires c =
    let block = c.args.block.now in
    let start = c.args.self.now in
    let kept = c.tidy.new.self.kept in
    let rest = sym c.tidy.ensures.rest in
    record {
      chain = subst (λ (h : Heads). HasChain block h c.args.chain) rest (record { known = c.requires.chain.known; stands = stands_with block start kept c.requires.chain.stands });
      room = subst (λ (h : Heads). HasRoomFor block h c.args.chain c.args.prepared.now.stamp) rest (room_beside block start kept c.args.chain c.args.prepared.now.stamp c.requires.room);
      place = subst (λ (h : Heads). IsPlace block h c.args.chain c.args.prepared.now.stamp c.args.last c.args.here) rest (place_beside block start kept c.args.chain c.args.prepared.now.stamp c.args.last c.args.here c.requires.place);
    }

pub insert-requires : goal.insert-requires
insert-requires c =
    omega (
      arith,
      c.tidy.ensures.room,
      ap (λ (h : Heads). length h.kept) c.self.view_is,
      ap (λ (h : Heads). h.share) c.self.view_is,
      c.self.invariant,
      ap (λ (kept : List Kept). length kept) c.link-slot.ensures.kept,
      c.link-slot.ensures.changed.own.shape.share,
      ap (λ (h : Heads). h.share) c.tidy.ensures.rest,
    )

whose : (c : goal.After-insert) → c.self.inside.tenant ≡ c.tidy.new.self.tenant
whose c = ap (λ (h : Heads). h.tenant) c.self.view_is ∙ c.link-slot.ensures.changed.own.shape.tenant

listed : (c : goal.After-insert) → IsListedInto c.tidy.new.self.kept c.insert.new.self.kept (held_at c.args.prepared.now.stamp c.link-slot.result)
listed c =
    let P : List Kept → ℕ → Type 0 = λ old stamp. IsListedInto old c.insert.new.self.kept (held_at stamp c.link-slot.result) in
    subst (λ old. P old c.args.prepared.now.stamp) (ap (λ (h : Heads). h.kept) c.self.view_is ∙ c.link-slot.ensures.kept)
    (subst (λ stamp. P c.self.inside.kept.kept stamp) c.stamp_of-stamp.ensures c.insert.ensures.listed)

abbrev after : (c : goal.After-insert) → Heads
after c = record { tenant = c.self.inside.tenant; share = c.self.inside.share; used = c.self.inside.used; heads = c.self.inside.slots.heads; latest = c.self.inside.slots.latest; kept = c.insert.new.self.kept }

pub returns-clause-changed : goal.returns-clause-changed
returns-clause-changed c =
    let block = c.args.block.now in
    let start = c.args.self.now in
    subst (λ (h : Heads). ChangesChain block start c.link-slot.new.block (with_kept h c.insert.new.self.kept) c.args.chain) (sym c.self.view_is)
    (changes_listed block c.link-slot.new.block start c.link-slot.new.self c.insert.new.self.kept c.args.chain
    (changes_from block start c.tidy.new.self.kept c.args.chain c.link-slot.new.block c.link-slot.new.self
    (subst (λ (h : Heads). ChangesChain block h c.link-slot.new.block c.link-slot.new.self c.args.chain) c.tidy.ensures.rest c.link-slot.ensures.changed)))

pub returns-clause-added : goal.returns-clause-added
returns-clause-added c =
    let block = c.args.block.now in
    let start = c.args.self.now in
    let version : Version = record { prepared = c.args.prepared.now; committed = c.args.committed } in
    subst (λ (h : Heads). HaveOneMore block start c.link-slot.new.block (with_kept h c.insert.new.self.kept) c.args.chain version) (sym c.self.view_is)
    (more_listed block c.link-slot.new.block start c.link-slot.new.self c.insert.new.self.kept c.args.chain version
    (more_from block start c.tidy.new.self.kept c.args.chain c.link-slot.new.block c.link-slot.new.self version
    (subst (λ (h : Heads). HaveOneMore block h c.link-slot.new.block c.link-slot.new.self c.args.chain version) c.tidy.ensures.rest c.link-slot.ensures.added)))

pub returns-clause-list : goal.returns-clause-list
returns-clause-list c = lists_put c.args.block.now c.tidy.new.self c.tidy.ensures.list c.link-slot.new.block (after c) c.args.prepared.now.stamp c.link-slot.result (whose c) c.link-slot.ensures.put (listed c)
